-- Entries with room for more.
use Rattle.std.specs.Prelude.{ℕ, ◌+◌, ◌≤◌, List, vec_len, vec_capacity}
use Rattle.dl_model.specs.declared.history.Entry.{Entry}
use Rattle.dl_soup.specs.declared.entries.Entries.TheInside.{Inside}

-- entries, and how many more there is room for
pub record EntryRow : Type 0 where
  pub entries : List Entry
  pub spare : ℕ

abbrev pub entry_row : Inside → EntryRow
entry_row row = record { entries = row.items.items; spare = row.spare }

pub record EntriesHaveRoom (row : Inside) : Type 0 where
  pub memory : vec_len row.items + row.spare ≤ vec_capacity row.items
