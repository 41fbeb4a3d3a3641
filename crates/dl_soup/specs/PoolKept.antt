-- How a state is kept with the ids of its live messages.
use Rattle.std.specs.Prelude.{◌≡◌, ℕ, ◌≤◌, List, map}
use Rattle.std.specs.List.{All}
use Rattle.dl_state.specs.Known.{Known}
use Rattle.dl_soup.specs.declared.pool.Pool.TheInside.{Inside}
use Rattle.dl_soup.specs.IdRows.{IdRow}
use Rattle.dl_soup.specs.Live.{live_of}

abbrev pub ids_of : IdRow → List ℕ
ids_of row = row.ids

abbrev pub HasSpare : ℕ → IdRow → Type 0
HasSpare spare row = spare ≤ row.spare

abbrev pub known_of : Inside → Known
known_of pool = pool.state

-- for each label there are the ids of its live messages, and room for as many more as the state has room for messages
pub record PoolIsKept (pool : Inside) : Type 0 where
  pub live : map ids_of pool.live.items ≡ live_of pool.state.state
  pub room : All (HasSpare pool.state.spare) pool.live.items
