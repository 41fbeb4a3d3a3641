-- A list of names with a mark for each of those that are in it.
use Rattle.std.specs.Prelude.{◌≡◌, ℕ, Bool, false, List, slice_index_or}
use Rattle.dl_model.specs.Sorts.{has}

-- the mark at each name says whether the list has it, and there is none past the greatest one
pub record AreMarked (names : List ℕ) (marks : List Bool) : Type 0 where
  pub each : (n : ℕ) → slice_index_or marks n false ≡ has names n
