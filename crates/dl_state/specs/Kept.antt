-- How a state is kept.
use Rattle.std.specs.Prelude.{ℕ, ◌≤◌, map}
use Rattle.std.specs.List.{All}
use Rattle.dl_term.specs.State.{Statelet}
use Rattle.dl_state.specs.declared.world.Slot.{Slot}
use Rattle.dl_state.specs.declared.world.WorldState.TheInside.{Inside}
use Rattle.dl_state.specs.Known.{Known}
use Rattle.dl_state.specs.Writes.{CanGrow}

abbrev pub statelet_of : Slot → Statelet
statelet_of slot = record { fields = slot.board; soup = slot.messages.messages }

abbrev pub known_of : Inside → Known
known_of world = record { state = record { nodes = world.nodes; labels = map statelet_of world.labels.items }; spare = world.spare }

-- the soup has room for that many more
abbrev pub HasSpare : ℕ → Slot → Type 0
HasSpare spare slot = spare ≤ slot.messages.spare

abbrev pub EachHasSpare : Inside → Type 0
EachHasSpare world = All (HasSpare world.spare) world.labels.items

-- the soup may get that many more messages
abbrev pub SlotCanGrow : ℕ → Slot → Type 0
SlotCanGrow more slot = CanGrow more (statelet_of slot)
