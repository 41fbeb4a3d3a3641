-- The steps of protocols: when a send and a receive may be made, what they do, and which hooks a send meets.
use Rattle.std.specs.Prelude.{◌≡◌, ℕ, zero, suc, ℤ, pos, negsuc, Bool, true, false, ◌&&◌, if◌then◌else◌, Option, Some, None, List, [], ◌∷◌, ◌++◌, slice_get, unwrap_or}
use Rattle.std.specs.List.{list_all}
use Rattle.dl_term.specs.declared.syntax.Term.{Term}
use Rattle.dl_term.specs.State.{State, Statelet, Message, statelet, soup_at}
use Rattle.dl_term.specs.Names.{Names}
use Rattle.dl_term.specs.Meaning.{value, holds}
use Rattle.dl_model.specs.declared.protocol.Update.{Update}
use Rattle.dl_model.specs.declared.protocol.Transition.{Transition}
use Rattle.dl_model.specs.declared.protocol.Instances.{Instances}
use Rattle.dl_model.specs.declared.file.World.{World}
use Rattle.dl_model.specs.declared.file.Decls.{Decls}
use Rattle.dl_model.specs.Sorts.{in_sort, all_in_sorts, is_node, has}
use Rattle.dl_model.specs.Lookup.{tag_at, receive_of, field_sort, arg_sorts, arg_names, hook_at}
use Rattle.dl_model.specs.Words.{send_names, receive_names}

-- What a node may do: send a message with a tag, an addressee and arguments, or receive the message with this id.
pub data Step : Type 0 where
  Sending : (label tag : ℕ) (to : ℤ) (args : List ℤ) → Step
  Receiving : (label id : ℕ) → Step

abbrev pub label_of_step : Step → ℕ
label_of_step (Sending label tag to args) = label
label_of_step (Receiving label id) = label

-- the message with this id, or one that is not live
abbrev pub message_in : State → ℕ → ℕ → Message
message_in state label id =
    unwrap_or (slice_get (soup_at state label) id) (record { tag = 0; from = 0; to = pos 0; live = false; args = [] })

-- what guard and updates of a send, and of a receive, see
abbrev pub names_of_send : Instances → ℕ → ℕ → ℕ → ℤ → List ℤ → Names
names_of_send inst label tag node to args = send_names label (arg_names (tag_at inst label tag).args) node to args

abbrev pub names_of_receive : Instances → ℕ → Message → ℕ → Names
names_of_receive inst label message node =
    receive_names label (arg_names (tag_at inst label message.tag).args) node message.from message.args

-- the receive transition of a message's tag
abbrev pub receive_at : Instances → ℕ → Message → Transition
receive_at inst label message = receive_of (tag_at inst label message.tag)

-- ---- updates

-- where an update writes: 0 for a field that is no row
abbrev pub index_of : Option Term → Names → State → ℤ
index_of (Some index) names state = value index names state
index_of None names state = pos 0

abbrev pub index_fits : Option Term → Names → State → Bool
index_fits (Some index) names state = is_node state.nodes (value index names state)
index_fits None names state = true

-- the index is a node, and the new value is in the field's sort
abbrev pub update_fits : Instances → ℕ → Names → State → Update → Bool
update_fits inst label names state update =
    index_fits update.index names state && in_sort (field_sort inst label update.field) (value update.value names state)

-- the item at a place is changed
abbrev pub change : {X : Type 0} → (X → X) → List X → ℕ → List X
change f [] n = []
change f (x ∷ xs) zero = f x ∷ xs
change f (x ∷ xs) (suc n) = x ∷ change f xs n

-- the number at a place is replaced
abbrev pub put : ℤ → List ℤ → ℤ → List ℤ
put new row (pos index) = change (λ old. new) row index
put new row (negsuc index) = row

abbrev pub set_cell : List (List (List ℤ)) → ℕ → ℕ → ℤ → ℤ → List (List (List ℤ))
set_cell fields field node index new = change (λ column. change (λ row. put new row index) column node) fields field

-- The fields after the updates that fit. Values and indexes are taken in the old state.
abbrev pub updated : Instances → ℕ → Names → State → ℕ → List Update → List (List (List ℤ)) → List (List (List ℤ))
updated inst label names state node [] fields = fields
updated inst label names state node (update ∷ updates) fields =
    updated inst label names state node updates
    (if update_fits inst label names state update
    then set_cell fields update.field node (index_of update.index names state) (value update.value names state)
    else fields)

abbrev pub with_statelet : State → ℕ → Statelet → State
with_statelet state label new = record { nodes = state.nodes; labels = change (λ old. new) state.labels label }

-- ---- sends

-- The node's send is enabled.
pub record IsEnabled (inst : Instances) (state : State) (node label tag : ℕ) (to : ℤ) (args : List ℤ) : Type 0 where
  pub addressee : is_node inst.nodes to ≡ true
  pub arguments : all_in_sorts (arg_sorts (tag_at inst label tag).args) args ≡ true
  pub guard : holds (tag_at inst label tag).send.guard (names_of_send inst label tag node to args) state ≡ true
  pub updates : list_all (update_fits inst label (names_of_send inst label tag node to args) state) (tag_at inst label tag).send.updates ≡ true

abbrev pub statelet_sent : Instances → State → ℕ → ℕ → ℕ → ℤ → List ℤ → Statelet
statelet_sent inst state node label tag to args = record {
  fields = updated inst label (names_of_send inst label tag node to args) state node (tag_at inst label tag).send.updates (statelet state label).fields;
  soup = soup_at state label ++ record { tag = tag; from = node; to = to; live = true; args = args } ∷ [];
}

-- The state after a send, enabled or not: a live message is appended, and each update that fits is made.
abbrev pub after_send : Instances → State → ℕ → ℕ → ℕ → ℤ → List ℤ → State
after_send inst state node label tag to args = with_statelet state label (statelet_sent inst state node label tag to args)

-- ---- receives

-- The node can receive the message.
pub record IsReceivable (inst : Instances) (state : State) (node label id : ℕ) : Type 0 where
  pub live : (message_in state label id).live ≡ true
  pub mine : (message_in state label id).to ≡ pos node
  pub arguments : all_in_sorts (arg_sorts (tag_at inst label (message_in state label id).tag).args) (message_in state label id).args ≡ true
  pub guard : holds (receive_at inst label (message_in state label id)).guard (names_of_receive inst label (message_in state label id) node) state ≡ true
  pub updates : list_all (update_fits inst label (names_of_receive inst label (message_in state label id) node) state) (receive_at inst label (message_in state label id)).updates ≡ true

abbrev pub consumed : Message → Message
consumed message = record message { live = false }

abbrev pub statelet_received : Instances → State → ℕ → ℕ → ℕ → Statelet
statelet_received inst state node label id = record {
  fields = updated inst label (names_of_receive inst label (message_in state label id) node) state node (receive_at inst label (message_in state label id)).updates (statelet state label).fields;
  soup = change consumed (soup_at state label) id;
}

-- The state after a receive: the message stays in the soup and is not live any more, and the updates are made.
abbrev pub after_receive : Instances → State → ℕ → ℕ → ℕ → State
after_receive inst state node label id = with_statelet state label (statelet_received inst state node label id)

-- ---- either

abbrev pub CanStep : Instances → State → ℕ → Step → Type 0
CanStep inst state node (Sending label tag to args) = IsEnabled inst state node label tag to args
CanStep inst state node (Receiving label id) = IsReceivable inst state node label id

abbrev pub after_step : Instances → State → ℕ → Step → State
after_step inst state node (Sending label tag to args) = after_send inst state node label tag to args
after_step inst state node (Receiving label id) = after_receive inst state node label id

-- ---- hooks

-- The hook's formula holds of the send. It sees the sender's own fields at the core and the client.
abbrev pub hook_holds : Decls → State → ℕ → ℕ → ℤ → List ℤ → Bool
hook_holds decls state hook node to args =
    holds (hook_at decls hook).formula (send_names 0 (hook_at decls hook).args node to args) state

-- A send meets the world's hooks: each one whose client and tag are the send's. A receive has none to meet.
abbrev pub Meets : Decls → World → State → ℕ → Step → Type 0
Meets decls world state node (Sending label tag to args) =
    (hook : ℕ) → has world.hooks hook ≡ true → (hook_at decls hook).client ≡ label → (hook_at decls hook).tag ≡ tag →
    hook_holds decls state hook node to args ≡ true
Meets decls world state node (Receiving label id) = Unit {0}
