-- What an update writes, and the state after all updates of a step.
use Rattle.std.specs.Prelude.{◌≡◌, ℕ, ℤ, pos, true, List}
use Rattle.dl_term.specs.State.{State, Message, statelet}
use Rattle.dl_term.specs.Names.{Names}
use Rattle.dl_term.specs.Meaning.{value}
use Rattle.dl_model.specs.declared.protocol.Update.{Update}
use Rattle.dl_model.specs.declared.protocol.Instances.{Instances}
use Rattle.dl_model.specs.Steps.{index_of, update_fits, updated}
use Rattle.dl_model.specs.Lookup.{tag_at, receive_of, arg_names}
use Rattle.dl_model.specs.Words.{send_names, receive_names}
use Rattle.dl_state.specs.Known.{Known}
use Rattle.dl_state.specs.Writes.{with_fields}

-- The update fits, and writes this number at this index.
pub record IsWritten (inst : Instances) (label : ℕ) (names : Names) (state : State) (update : Update) (at_index : ℕ) (new : ℤ) : Type 0 where
  pub fits : update_fits inst label names state update ≡ true
  pub index : index_of update.index names state ≡ pos at_index
  pub number : value update.value names state ≡ new

-- the node's updates that fit are made
abbrev pub after_updates : Instances → State → ℕ → ℕ → Names → List Update → State
after_updates inst state label node names updates =
    with_fields state label (updated inst label names state node updates (statelet state label).fields)

abbrev pub known_updates : Instances → Known → ℕ → ℕ → Names → List Update → Known
known_updates inst known label node names updates =
    record { state = after_updates inst known.state label node names updates; spare = known.spare }

-- the updates of a send, and of a receive of this message
abbrev pub send_updates : Instances → Known → ℕ → ℕ → ℕ → ℤ → List ℤ → Known
send_updates inst known label tag node to args =
    known_updates inst known label node (send_names label (arg_names (tag_at inst label tag).args) node to args) (tag_at inst label tag).send.updates

abbrev pub receive_updates : Instances → Known → ℕ → Message → ℕ → Known
receive_updates inst known label message node =
    known_updates inst known label node (receive_names label (arg_names (tag_at inst label message.tag).args) node message.from message.args)
    (receive_of (tag_at inst label message.tag)).updates
