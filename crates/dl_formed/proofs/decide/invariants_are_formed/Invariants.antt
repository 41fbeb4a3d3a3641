use Rattle.std.proofs.Common.{◌≡◌, drop}
use Rattle.std.specs.List.{list_all}
use Rattle.dl_formed.specs.Decided.{invariant_is_formed}
use Rattle.dl_formed.proofs.decide.invariants_are_formed.Given as goal

abbrev pub invariant-loop-invariant : goal.invariant-loop-invariant
invariant-loop-invariant l = list_all (invariant_is_formed l.inst l.worlds) (drop l.invariant-index l.invariants) ≡ list_all (invariant_is_formed l.inst l.worlds) l.invariants
