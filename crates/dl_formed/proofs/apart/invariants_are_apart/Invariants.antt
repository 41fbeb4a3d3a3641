use Rattle.std.proofs.Common.{◌≡◌, drop}
use Rattle.std.specs.List.{list_all}
use Rattle.dl_formed.specs.Decided.{invariant_is_apart}
use Rattle.dl_formed.proofs.apart.invariants_are_apart.Given as goal

abbrev pub invariant-loop-invariant : goal.invariant-loop-invariant
invariant-loop-invariant l = list_all (invariant_is_apart l.names) (drop l.invariant-index l.invariants) ≡ list_all (invariant_is_apart l.names) l.invariants
