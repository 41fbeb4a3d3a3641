use Rattle.std.proofs.Common.{◌≡◌, ◌++◌, take}
use Rattle.dl_formed.specs.Collected.{invariant_names}
use Rattle.dl_formed.proofs.collect.add_invariants.Given as goal

abbrev pub invariant-loop-invariant : goal.invariant-loop-invariant
invariant-loop-invariant l = l.names ≡ l.initial.names ++ invariant_names (take l.invariant-index l.invariants)
