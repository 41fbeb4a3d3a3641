-- A list of positions with a mark for each of those that are in it.
use Rattle.std.specs.Prelude.{◌≡◌, ℕ, ◌<◌, Bool, false, List, slice_index_or}
use Rattle.dl_model.specs.Sorts.{has}

-- the mark at each position says whether the list has it
pub record AreMarked (positions : List ℕ) (marks : List Bool) : Type 0 where
  pub each : (n : ℕ) → n < 256 → slice_index_or marks n false ≡ has positions n
