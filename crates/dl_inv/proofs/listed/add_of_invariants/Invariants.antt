use Rattle.std.proofs.Common.{◌≡◌, ◌++◌, ◌-◌, length}
use Rattle.std.specs.List.{flat_map, range_with_len}
use Rattle.dl_inv.specs.Duties.{duties_of_invariant, positions}
use Rattle.dl_inv.proofs.listed.add_of_invariants.Given as goal

abbrev pub invariant-loop-position : goal.invariant-loop-position
invariant-loop-position l =
    l.list ++ flat_map (duties_of_invariant l.decls) (range_with_len l.position (length l.decls.invariants - l.position))
    ≡ l.initial.list ++ flat_map (duties_of_invariant l.decls) (positions l.decls.invariants)
