use Rattle.std.proofs.Common.{◌≡◌, drop}
use Rattle.dl_world.specs.Composed.{with_new}
use Rattle.dl_world.proofs.union.add_new.Given as goal

abbrev pub invariant-loop-position : goal.invariant-loop-position
invariant-loop-position l = with_new l.set.keys (drop l.position-index l.positions) ≡ with_new l.initial.set.keys l.positions
