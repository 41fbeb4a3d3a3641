use Rattle.std.proofs.Common.{take}
use Rattle.dl_state.proofs.Filled.{Laid}
use Rattle.dl_state.proofs.board.Board.lay.Given as goal

abbrev pub invariant-loop-shape : goal.invariant-loop-shape
invariant-loop-shape l = Laid l.count l.columns.items l.cells.items (take l.shape-index l.shapes)
