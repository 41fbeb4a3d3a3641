-- The messages of a label, with the room for more.
use Rattle.std.specs.Prelude.{ℕ, ◌+◌, ◌≤◌, ◌<◌, ◌^◌, List, vec_len, vec_capacity}
use Rattle.dl_term.specs.State.{Message}
use Rattle.dl_state.specs.declared.messages.Messages.TheInside.{Inside}

-- the messages, and how many more there is room for
pub record Soup : Type 0 where
  pub messages : List Message
  pub spare : ℕ

abbrev pub soup_of : Inside → Soup
soup_of m = record { messages = m.items.items; spare = m.spare }

-- There is memory for as many more, and their ids are below 2^32.
pub record HasRoom (m : Inside) : Type 0 where
  pub memory : vec_len m.items + m.spare ≤ vec_capacity m.items
  pub ids : vec_len m.items + m.spare < 2 ^ 32
