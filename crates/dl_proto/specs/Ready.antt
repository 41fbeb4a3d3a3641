-- What is used of a formed protocol: steps whose terms can be evaluated, and whose updates are of different fields.
use Rattle.std.specs.Prelude.{◌≡◌, ℕ, ◌≤◌, ℤ, Bool, true, ◌&&◌, Option, Some, None, is_some, List, length, map}
use Rattle.std.specs.List.{All, list_all}
use Rattle.dl_term.specs.State.{State, Message}
use Rattle.dl_term.specs.Names.{Names}
use Rattle.dl_term.specs.Meaning.{holds}
use Rattle.dl_term.specs.Measures.{IsNarrow, EachIsNarrow}
use Rattle.dl_model.specs.declared.protocol.Update.{Update}
use Rattle.dl_model.specs.declared.protocol.Transition.{Transition}
use Rattle.dl_model.specs.declared.protocol.Tag.{Tag}
use Rattle.dl_model.specs.declared.protocol.Protocol.{Protocol}
use Rattle.dl_model.specs.declared.protocol.Instances.{Instances}
use Rattle.dl_model.specs.Sorts.{is_node, all_in_sorts}
use Rattle.dl_model.specs.Lookup.{arg_names, arg_sorts, receive_of}
use Rattle.dl_model.specs.Words.{send_names, receive_names}
use Rattle.dl_model.specs.Steps.{update_fits}
use Rattle.dl_model.specs.Scopes.{is_field, IsIndex}
use Rattle.dl_model.specs.Formed.{AreDistinct}

pub record UpdateIsReady (protocol : Protocol) (update : Update) : Type 0 where
  pub field : is_field (Some protocol) update.field (is_some update.index) ≡ true
  pub index : IsIndex IsNarrow update.index
  pub value : IsNarrow update.value

-- the fields of the updates, in order
abbrev pub updated_fields : List Update → List ℕ
updated_fields updates = map (λ (update : Update). update.field) updates

pub record TransitionIsReady (protocol : Protocol) (transition : Transition) : Type 0 where
  pub guard : EachIsNarrow transition.guard
  pub updates : All (UpdateIsReady protocol) transition.updates
  pub once : AreDistinct (updated_fields transition.updates)

abbrev pub ReceiveIsReady : Protocol → Option Transition → Type 0
ReceiveIsReady protocol (Some transition) = TransitionIsReady protocol transition
ReceiveIsReady protocol None = Unit {0}

pub record TagIsReady (protocol : Protocol) (tag : Tag) : Type 0 where
  pub args : length tag.args ≤ 8
  pub send : TransitionIsReady protocol tag.send
  pub receive : ReceiveIsReady protocol tag.receive

-- ---- the tests of a step

-- the guard holds, and each update fits
abbrev pub passes : Instances → ℕ → Names → State → Transition → Bool
passes inst label names state transition =
    holds transition.guard names state && list_all (update_fits inst label names state) transition.updates

abbrev pub send_passes : Instances → State → ℕ → Tag → ℕ → ℤ → List ℤ → Bool
send_passes inst state label tag node to args =
    is_node inst.nodes to && (all_in_sorts (arg_sorts tag.args) args && passes inst label (send_names label (arg_names tag.args) node to args) state tag.send)

abbrev pub receive_passes : Instances → State → ℕ → Tag → Message → ℕ → Bool
receive_passes inst state label tag message node =
    all_in_sorts (arg_sorts tag.args) message.args && passes inst label (receive_names label (arg_names tag.args) node message.from message.args) state (receive_of tag)
