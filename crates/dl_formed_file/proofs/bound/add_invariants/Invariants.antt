use Rattle.std.proofs.Common.{◌≡◌, drop}
use Rattle.std.specs.List.{flat_map}
use Rattle.dl_formed_file.specs.Bound.{with_names, invariant_bound}
use Rattle.dl_formed_file.proofs.bound.add_invariants.Given as goal

abbrev pub invariant-loop-invariant : goal.invariant-loop-invariant
invariant-loop-invariant l = with_names l.set.keys (flat_map invariant_bound (drop l.invariant-index l.invariants)) ≡ with_names l.initial.set.keys (flat_map invariant_bound l.invariants)
