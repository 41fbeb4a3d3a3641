use Rattle.std.proofs.Common.{◌≡◌, ◌-◌, length}
use Rattle.std.specs.List.{find, range_with_len}
use Rattle.dl_world.specs.Injected.{is_uncovered, first_uncovered}
use Rattle.dl_world.proofs.inject.uncovered.Given as goal

abbrev pub invariant-loop-position : goal.invariant-loop-position
invariant-loop-position l =
    find (is_uncovered l.decls l.small l.large) (range_with_len l.position (length l.decls.hooks - l.position)) ≡ first_uncovered l.decls l.small l.large
