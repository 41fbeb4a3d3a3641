-- The ids of the live messages of each label.
use Rattle.std.specs.Prelude.{ℕ, ◌==◌, Bool, false, not, Option, Some, None, List, [], ◌∷◌, length, map, slice_get}
use Rattle.std.specs.List.{filter, range_with_len}
use Rattle.dl_term.specs.State.{State, Statelet, Message}

abbrev pub is_live : Option Message → Bool
is_live (Some message) = message.live
is_live None = false

-- the ids of the live messages of a soup, the least one first
abbrev pub live_in : List Message → List ℕ
live_in soup = filter (λ id. is_live (slice_get soup id)) (range_with_len 0 (length soup))

abbrev pub live_at : Statelet → List ℕ
live_at at = live_in at.soup

abbrev pub live_of : State → List (List ℕ)
live_of state = map live_at state.labels

abbrev pub other_than : ℕ → ℕ → Bool
other_than id other = not (other == id)

-- whether a list has one id, and it is this one
abbrev pub is_alone : ℕ → List ℕ → Bool
is_alone id (only ∷ []) = only == id
is_alone id _ = false
