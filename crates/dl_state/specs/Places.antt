-- Places of fields. A field has a row of numbers for each node.
use Rattle.std.specs.Prelude.{ℕ, ◌≤◌, ◌<◌, ℤ, pos, negsuc, List, [], length, slice_get, unwrap_or}

abbrev pub column_at : List (List (List ℤ)) → ℕ → List (List ℤ)
column_at fields field = unwrap_or (slice_get fields field) []

abbrev pub row_at : List (List (List ℤ)) → ℕ → ℕ → List ℤ
row_at fields field node = unwrap_or (slice_get (column_at fields field) node) []

-- The fields have a number at this place.
pub record HasPlace (fields : List (List (List ℤ))) (at_field at_node at_index : ℕ) : Type 0 where
  pub field : at_field < length fields
  pub node : at_node < length (column_at fields at_field)
  pub index : at_index < length (row_at fields at_field at_node)

-- no number below the limit
abbrev pub IsOutside : ℕ → ℤ → Type 0
IsOutside limit (pos n) = limit ≤ n
IsOutside limit (negsuc n) = Unit {0}
