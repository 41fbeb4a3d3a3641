use Rattle.std.proofs.Common.{◌≡◌, ◌≤◌, drop}
use Rattle.dl_model.specs.Block.{block_of}
use Rattle.dl_points.specs.Finding.{found_in}
use Rattle.dl_points.proofs.points.+find.Given as goal

abbrev pub invariant-find-loop-index : goal.invariant-find-loop-index
invariant-find-loop-index l = (l.left ≤ 4294967295) × (found_in (block_of (drop l.index l.commands)) l.left ≡ found_in (block_of l.commands) l.fn.point)
