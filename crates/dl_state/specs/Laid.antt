-- Numbers of fields, one behind another in one list.
use Rattle.std.specs.Prelude.{◌≡◌, ℕ, zero, suc, ◌+◌, ◌*◌, ℤ, List, [], ◌∷◌, map, take, drop}
use Rattle.dl_state.specs.declared.board.Column.{Column}

-- rows of this width, one for each node
abbrev pub rows : ℕ → ℕ → List ℤ → List (List ℤ)
rows zero width cells = []
rows (suc nodes) width cells = take width cells ∷ rows nodes width (drop width cells)

abbrev pub column_of : ℕ → List ℤ → Column → List (List ℤ)
column_of nodes cells column = rows nodes column.width (drop column.start cells)

abbrev pub columns_of : ℕ → List ℤ → List Column → List (List (List ℤ))
columns_of nodes cells columns = map (column_of nodes cells) columns

-- each column begins where the one before it ends, the first at this place, and the last one ends here
abbrev pub AreLaidOut : ℕ → ℕ → List Column → ℕ → Type 0
AreLaidOut nodes start [] end = start ≡ end
AreLaidOut nodes start (column ∷ columns) end = (column.start ≡ start) × AreLaidOut nodes (start + nodes * column.width) columns end
