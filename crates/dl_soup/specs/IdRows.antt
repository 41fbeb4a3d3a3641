-- Ids with room for more.
use Rattle.std.specs.Prelude.{ℕ, ◌+◌, ◌≤◌, List, vec_len, vec_capacity}
use Rattle.dl_soup.specs.declared.ids.Ids.TheInside.{Inside}

-- ids, and how many more there is room for
pub record IdRow : Type 0 where
  pub ids : List ℕ
  pub spare : ℕ

abbrev pub id_row : Inside → IdRow
id_row row = record { ids = row.items.items; spare = row.spare }

pub record IdsHaveRoom (row : Inside) : Type 0 where
  pub memory : vec_len row.items + row.spare ≤ vec_capacity row.items
