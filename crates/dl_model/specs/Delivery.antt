-- Which of several messages is received.
use Rattle.std.specs.Prelude.{◌≡◌, ℕ, zero, suc, ◌+◌, ◌*◌, ◌/◌, ◌%◌, ◌^◌, pos, Bool, ◌&&◌, ◌==◌, Option, Some, None, List, [], ◌∷◌, slice_get, length}
use Rattle.std.specs.Ordering.{int_eq}
use Rattle.std.specs.List.{list_all, filter, range_with_len, last_or}
use Rattle.dl_term.specs.State.{State, Message, soup_at}
use Rattle.dl_term.specs.Meaning.{holds}
use Rattle.dl_model.specs.declared.history.Call.{Call}
use Rattle.dl_model.specs.declared.history.Call.TheVariants as call
use Rattle.dl_model.specs.declared.history.Reply.{Reply}
use Rattle.dl_model.specs.declared.history.Reply.TheVariants.{Got}
use Rattle.dl_model.specs.declared.history.Entry.{Entry}
use Rattle.dl_model.specs.declared.history.Order.{Order}
use Rattle.dl_model.specs.declared.history.Order.TheVariants.{Oldest, Newest, Seed}
use Rattle.dl_model.specs.declared.protocol.Instances.{Instances}
use Rattle.dl_model.specs.Sorts.{all_in_sorts}
use Rattle.dl_model.specs.Lookup.{tag_at, arg_sorts}
use Rattle.dl_model.specs.Steps.{message_in, names_of_receive, receive_at, update_fits}
use Rattle.dl_model.specs.Runs.{step_of, state_after}

-- ---- the messages that can be received

abbrev pub is_receivable : Instances → State → ℕ → ℕ → Message → Bool
is_receivable inst state node label message =
    (message.live && int_eq message.to (pos node))
    && (all_in_sorts (arg_sorts (tag_at inst label message.tag).args) message.args
    && (holds (receive_at inst label message).guard (names_of_receive inst label message node) state
    && list_all (update_fits inst label (names_of_receive inst label message node) state) (receive_at inst label message).updates))

abbrev pub is_match : Instances → State → ℕ → ℕ → ℕ → ℕ → Bool
is_match inst state node label tag id = ((message_in state label id).tag == tag) && is_receivable inst state node label (message_in state label id)

-- the ids of the messages of the tag that the node can receive, the least one first
abbrev pub matches : Instances → State → ℕ → ℕ → ℕ → List ℕ
matches inst state node label tag = filter (is_match inst state node label tag) (range_with_len 0 (length (soup_at state label)))

-- ---- the one that is taken

-- the generator after some turns
abbrev pub drawn : ℕ → ℕ → ℕ
drawn seed zero = seed
drawn seed (suc turns) = (drawn seed turns * 6364136223846793005 + 1442695040888963407) % (2 ^ 64)

-- The match that an order takes after so many earlier receives. The generator makes one turn at each receive.
abbrev pub choice : Order → ℕ → List ℕ → Option ℕ
choice Oldest receives ids = slice_get ids 0
choice Newest receives ids = last_or None ids
choice (Seed seed) receives ids = slice_get ids ((drawn seed (suc receives) / (2 ^ 33)) % length ids)

-- a receive takes the order's choice
abbrev pub IsChosen : Order → ℕ → Instances → State → ℕ → Call → Reply → Type 0
IsChosen order receives inst state node (call.Poll label tag) (Got id from args) = choice order receives (matches inst state node label tag) ≡ Some id
IsChosen order receives inst state node (call.Await label tag) (Got id from args) = choice order receives (matches inst state node label tag) ≡ Some id
IsChosen order receives inst state node _ _ = Unit {0}

abbrev pub receives_after : ℕ → Reply → ℕ
receives_after receives (Got id from args) = suc receives
receives_after receives _ = receives

-- From this state, after so many receives, each receive of the history takes the order's choice.
abbrev pub IsUnder : Order → ℕ → Instances → State → List Entry → Type 0
IsUnder order receives inst state [] = Unit {0}
IsUnder order receives inst state (entry ∷ entries) =
    IsChosen order receives inst state entry.node entry.call entry.reply ×
    IsUnder order (receives_after receives entry.reply) inst (state_after inst state entry.node (step_of entry.call entry.reply)) entries
