use Rattle.std.proofs.Common.{◌≡◌, ◌++◌, take}
use Rattle.std.specs.Prelude.{replicate}
use Rattle.std.specs.List.{flat_map}
use Rattle.dl_state.proofs.board.lay_rows.Given as goal

abbrev pub invariant-loop-value : goal.invariant-loop-value
invariant-loop-value l = l.cells.items ≡ l.initial.cells.items ++ flat_map (replicate l.width) (take l.value-index l.first)
