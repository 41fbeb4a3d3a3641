use Rattle.std.proofs.Common.{◌≡◌, ◌≤◌, drop}
use Rattle.dl_model.specs.Block.{block_of}
use Rattle.dl_points.specs.Passing.{after_of}
use Rattle.dl_points.specs.Finding.{next_in}
use Rattle.dl_points.proofs.points.+next.Given as goal

abbrev pub invariant-next_over-loop-index : goal.invariant-next_over-loop-index
invariant-next_over-loop-index l =
    (l.left ≤ 4294967295) × (next_in (block_of (drop l.index l.commands)) (after_of l.trail) l.left ≡ next_in (block_of l.commands) (after_of l.trail) l.fn.point)
