use Rattle.std.proofs.Common.{drop}
use Rattle.dl_world.proofs.Marking.{MarksBefore}
use Rattle.dl_world.proofs.positions.Positions.of.Given as goal

abbrev pub invariant-loop-position : goal.invariant-loop-position
invariant-loop-position l = MarksBefore (drop l.position-index l.list) l.list l.marks
