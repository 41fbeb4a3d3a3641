-- What holds while the fields of a label are laid out.
use Rattle.std.proofs.Common.{◌≡◌, ℕ, ℤ, List, length, map}
use Rattle.dl_state.specs.declared.board.Column.{Column}
use Rattle.dl_state.specs.declared.shape.FieldShape.{FieldShape}
use Rattle.dl_state.specs.Laid.{columns_of, AreLaidOut}
use Rattle.dl_state.specs.Shapes.{shape_column}

-- these fields lie in the buffer
pub record Laid (nodes : ℕ) (columns : List Column) (cells : List ℤ) (fields : List FieldShape) : Type 0 where
  pub out : AreLaidOut nodes 0 columns (length cells)
  pub fields_are : columns_of nodes cells columns ≡ map (shape_column nodes) fields
