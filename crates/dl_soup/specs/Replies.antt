-- What a soup replies to a call, and where it leads.
use Rattle.std.specs.Prelude.{ℕ, ◌+◌, ◌*◌, ◌-◌, ◌/◌, ◌%◌, ◌^◌, pos, Bool, true, false, Option, Some, None, List, [], ◌∷◌, ◌++◌, length, slice_get}
use Rattle.std.specs.List.{last_or}
use Rattle.dl_term.specs.State.{State, soup_at, field_at}
use Rattle.dl_model.specs.declared.history.Call.{Call}
use Rattle.dl_model.specs.declared.history.Call.TheVariants as call
use Rattle.dl_model.specs.declared.history.Reply.{Reply}
use Rattle.dl_model.specs.declared.history.Reply.TheVariants.{Sent, Got, Miss, Value}
use Rattle.dl_model.specs.declared.history.Entry.{Entry}
use Rattle.dl_model.specs.declared.history.Order.{Order}
use Rattle.dl_model.specs.declared.history.Order.TheVariants.{Oldest, Newest, Seed}
use Rattle.dl_model.specs.declared.protocol.Instances.{Instances}
use Rattle.dl_model.specs.Steps.{message_in, after_receive}
use Rattle.dl_model.specs.Machine.{packed}
use Rattle.dl_model.specs.Runs.{index_or_0, step_of, state_after}
use Rattle.dl_model.specs.Delivery.{choice, matches, receives_after}
use Rattle.dl_soup.specs.Seen.{Seen}

-- ---- the reply

-- a message that was received, or none
abbrev pub got_or_miss : State → ℕ → Option ℕ → Reply
got_or_miss state label (Some id) = Got id (message_in state label id).from (packed (message_in state label id).args)
got_or_miss state label None = Miss

-- The reply to a node's call in a state, where one of the matches is taken in this way.
abbrev pub reply_by : (List ℕ → Option ℕ) → Instances → State → ℕ → Call → Reply
reply_by take inst state node (call.Send label tag to args) = Sent (length (soup_at state label))
reply_by take inst state node (call.Poll label tag) = got_or_miss state label (take (matches inst state node label tag))
reply_by take inst state node (call.Await label tag) = got_or_miss state label (take (matches inst state node label tag))
reply_by take inst state node (call.Read label field index) = Value (field_at state label field (pos node) (index_or_0 index))

-- The reply where the order's choice is taken, after so many receives.
abbrev pub reply_to : Order → ℕ → Instances → State → ℕ → Call → Reply
reply_to order receives inst state node call = reply_by (choice order receives) inst state node call

-- how many receives there are after a history, from this number on
abbrev pub receives_from : ℕ → List Entry → ℕ
receives_from receives [] = receives
receives_from receives (entry ∷ entries) = receives_from (receives_after receives entry.reply) entries

abbrev pub receives_in : List Entry → ℕ
receives_in entries = receives_from 0 entries

-- ---- what a call does to a soup

abbrev pub reply_of : Seen → ℕ → Call → Reply
reply_of soup node call = reply_to soup.order (receives_in soup.history) soup.inst soup.state node call

abbrev pub entry_of : ℕ → ℕ → Call → Reply → Entry
entry_of node ticks call reply = record { node = node; ticks = ticks; call = call; reply = reply }

-- the soup after an entry
abbrev pub entered : Seen → Entry → Seen
entered soup entry = record {
  inst = soup.inst;
  shape = soup.shape;
  order = soup.order;
  state = state_after soup.inst soup.state entry.node (step_of entry.call entry.reply);
  history = soup.history ++ entry ∷ [];
  spare = soup.spare - 1;
}

-- the soup after a node's call
abbrev pub acted : Seen → ℕ → ℕ → Call → Seen
acted soup node ticks call = entered soup (entry_of node ticks call (reply_of soup node call))

-- whether there is a match
abbrev pub has_any : List ℕ → Bool
has_any [] = false
has_any (id ∷ ids) = true

-- an await is made only where there is a match
abbrev pub can_call : Seen → ℕ → Call → Bool
can_call soup node (call.Send label tag to args) = true
can_call soup node (call.Poll label tag) = true
can_call soup node (call.Await label tag) = has_any (matches soup.inst soup.state node label tag)
can_call soup node (call.Read label field index) = true

-- how many more messages there is room for after a reply
abbrev pub spare_after : ℕ → Reply → ℕ
spare_after spare (Sent id) = spare - 1
spare_after spare _ = spare

-- whether there was no message
abbrev pub missed : Reply → Bool
missed Miss = true
missed _ = false

-- ---- the generator of an order

-- the number after one turn
abbrev pub turned : ℕ → ℕ
turned x = (x * 6364136223846793005 + 1442695040888963407) % (2 ^ 64)

-- where the generator begins
abbrev pub seed_of : Order → ℕ
seed_of Oldest = 0
seed_of Newest = 0
seed_of (Seed seed) = seed

-- the match that an order takes, where the generator has come to this number
abbrev pub taken : Order → ℕ → List ℕ → Option ℕ
taken Oldest x ids = slice_get ids 0
taken Newest x ids = last_or None ids
taken (Seed seed) x ids = slice_get ids ((x / (2 ^ 33)) % length ids)

-- the generator and the state after a match was taken, or none
abbrev pub taken_turn : ℕ → Option ℕ → ℕ
taken_turn x (Some id) = turned x
taken_turn x None = x

abbrev pub taken_state : Instances → State → ℕ → ℕ → Option ℕ → State
taken_state inst state node label (Some id) = after_receive inst state node label id
taken_state inst state node label None = state

-- the generator after a reply
abbrev pub turn_after : ℕ → Reply → ℕ
turn_after x (Got id from args) = turned x
turn_after x _ = x
