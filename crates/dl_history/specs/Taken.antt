-- What a program's event asks of the machine and the state, and what it makes of them.
use Rattle.std.specs.Prelude.{◌≡◌, ℕ, ◌<◌, ℤ, pos, Bool, true, ◌&&◌, ◌==◌, if◌then◌else◌, Option, Some, List, length, slice_get, slice_set}
use Rattle.dl_term.specs.State.{State, soup_at, field_at}
use Rattle.dl_model.specs.declared.history.Call.{Call}
use Rattle.dl_model.specs.declared.history.Call.TheVariants as call
use Rattle.dl_model.specs.declared.history.Reply.{Reply}
use Rattle.dl_model.specs.declared.history.Reply.TheVariants.{Sent, Got, Miss, Value}
use Rattle.dl_model.specs.declared.history.Entry.{Entry}
use Rattle.dl_model.specs.declared.protocol.Instances.{Instances}
use Rattle.dl_model.specs.declared.program.Proc.{Proc}
use Rattle.dl_model.specs.declared.file.Decls.{Decls}
use Rattle.dl_model.specs.Lookup.{hook_at, composed}
use Rattle.dl_model.specs.Steps.{Sending, IsEnabled, Meets, hook_holds, after_send, after_receive}
use Rattle.dl_model.specs.Machine.{Machine, Asks, next, Ticked, after_reply, listed}
use Rattle.dl_model.specs.Runs.{IsGot, HasNoMatch, IsFreeCall, index_or_0, Replies, label_of_call, step_of, state_after}
use Rattle.dl_model.specs.Sorts.{has}
use Rattle.dl_prog.specs.declared.cont.Cont.{Cont}
use Rattle.dl_prog.specs.Places.{machine_of}
use Rattle.dl_history.specs.Runners.{Runner}
use Rattle.dl_proto.specs.Given.{SendIsGiven, ReceiveIsGiven}

-- ---- replies to a call, by its kind

abbrev pub IsSent : State → ℕ → Reply → Type 0
IsSent state label (Sent id) = id ≡ length (soup_at state label)
IsSent state label (Got id from args) = ⊥
IsSent state label Miss = ⊥
IsSent state label (Value v) = ⊥

-- a message was received
abbrev pub IsReceipt : Instances → State → ℕ → ℕ → ℕ → Reply → Type 0
IsReceipt inst state node label tag (Sent id) = ⊥
IsReceipt inst state node label tag (Got id from args) = IsGot inst state node label tag id from (listed args)
IsReceipt inst state node label tag Miss = ⊥
IsReceipt inst state node label tag (Value v) = ⊥

-- a message was received, or there is none
abbrev pub IsFound : Instances → State → ℕ → ℕ → ℕ → Reply → Type 0
IsFound inst state node label tag (Sent id) = ⊥
IsFound inst state node label tag (Got id from args) = IsGot inst state node label tag id from (listed args)
IsFound inst state node label tag Miss = HasNoMatch inst state node label tag
IsFound inst state node label tag (Value v) = ⊥

abbrev pub IsRead : State → ℕ → ℕ → ℕ → Option ℤ → Reply → Type 0
IsRead state node label field index (Sent id) = ⊥
IsRead state node label field index (Got id from args) = ⊥
IsRead state node label field index Miss = ⊥
IsRead state node label field index (Value v) = v ≡ field_at state label field (pos node) (index_or_0 index)

-- the reply is one to the call, by its kind
abbrev pub IsReplyTo : Instances → State → ℕ → Call → Reply → Type 0
IsReplyTo inst state node (call.Send label tag to args) reply = IsSent state label reply
IsReplyTo inst state node (call.Poll label tag) reply = IsFound inst state node label tag reply
IsReplyTo inst state node (call.Await label tag) reply = IsFound inst state node label tag reply
IsReplyTo inst state node (call.Read label field index) reply = IsRead state node label field index reply

-- the call is one of a free node with its reply, by its kind
abbrev pub IsFreeTo : Decls → State → ℕ → Call → Reply → Type 0
IsFreeTo decls state node (call.Send label tag to args) reply =
    IsSent state label reply × IsEnabled decls.inst state node label tag to (listed args) × Meets decls (composed decls) state node (Sending label tag to (listed args))
IsFreeTo decls state node (call.Poll label tag) reply = IsReceipt decls.inst state node label tag reply
IsFreeTo decls state node (call.Await label tag) reply = ⊥
IsFreeTo decls state node (call.Read label field index) reply = ⊥

-- ---- steps

-- what a reply makes a node receive exists
abbrev pub ReceiptIsGiven : Instances → State → ℕ → ℕ → Reply → Type 0
ReceiptIsGiven inst state node label (Sent id) = Unit {0}
ReceiptIsGiven inst state node label (Got id from args) = ReceiveIsGiven inst state label id node
ReceiptIsGiven inst state node label Miss = Unit {0}
ReceiptIsGiven inst state node label (Value v) = Unit {0}

-- the state after what a reply makes a node receive
abbrev pub after_receipt : Instances → State → ℕ → ℕ → Reply → State
after_receipt inst state node label (Sent id) = state
after_receipt inst state node label (Got id from args) = after_receive inst state node label id
after_receipt inst state node label Miss = state
after_receipt inst state node label (Value v) = state

-- the state after the step of a call and its reply, by its kind
abbrev pub after_call : Instances → State → ℕ → Call → Reply → State
after_call inst state node (call.Send label tag to args) reply = after_send inst state node label tag to (listed args)
after_call inst state node (call.Poll label tag) reply = after_receipt inst state node label reply
after_call inst state node (call.Await label tag) reply = after_receipt inst state node label reply
after_call inst state node (call.Read label field index) reply = state

-- what a call and its reply name exists, as far as they make a step
abbrev pub CallIsGiven : Instances → State → ℕ → Call → Reply → Type 0
CallIsGiven inst state node (call.Send label tag to args) reply = SendIsGiven inst label tag node (listed args)
CallIsGiven inst state node (call.Poll label tag) reply = ReceiptIsGiven inst state node label reply
CallIsGiven inst state node (call.Await label tag) reply = ReceiptIsGiven inst state node label reply
CallIsGiven inst state node (call.Read label field index) reply = Unit {0}

-- ---- hooks

-- the send meets the hook, or the hook is one of other sends
abbrev pub hook_met : Decls → State → ℕ → ℕ → ℕ → ℤ → List ℤ → ℕ → Bool
hook_met decls state node label tag to args hook =
    if ((hook_at decls hook).client == label) && ((hook_at decls hook).tag == tag) then hook_holds decls state hook node to args else true

-- ---- machines

-- The machine is at the call after so many ticks.
pub record Reaches (procs : List Proc) (count : ℕ) (asked : Call) (machine asking : Machine) : Type 0 where
  pub ticks : Ticked procs count machine asking
  pub asks : next procs asking ≡ Asks asked

-- The machine takes the entry's ticks, makes its call and gets its reply.
pub record IsTaken (decls : Decls) (before : State) (entry : Entry) (after : State) (old new : Machine) : Type 0 where
  pub asking : Machine
  pub reached : Reaches decls.procs entry.ticks entry.call old asking
  pub replies : Replies decls.inst before entry.node entry.call entry.reply
  pub state : after ≡ state_after decls.inst before entry.node (step_of entry.call entry.reply)
  pub machine : new ≡ after_reply asking entry.reply

-- The machine doesn't: it is at another place then, or the state doesn't give the reply.
pub record IsRefused (decls : Decls) (before : State) (entry : Entry) (old : Machine) : Type 0 where
  pub never : (asking : Machine) → Reaches decls.procs entry.ticks entry.call old asking → Replies decls.inst before entry.node entry.call entry.reply → ⊥

-- The machine at a place takes its turn, and the others stay as they are.
pub record TookTurn (decls : Decls) (before : State) (entry : Entry) (after : State) (old : List Runner) (place : ℕ) (new : List Runner) : Type 0 where
  pub runner : Runner
  pub there : slice_get old place ≡ Some runner
  pub cont : Cont
  pub taken : IsTaken decls before entry after (machine_of decls.procs runner.1) (machine_of decls.procs cont)
  pub others : new ≡ slice_set old place (record { 0 = runner.0; 1 = cont })

-- ---- an entry

-- The entry is one of a node, at a label of the composed world.
pub record IsDeclared (decls : Decls) (entry : Entry) : Type 0 where
  pub node : entry.node < decls.inst.nodes
  pub label : has (composed decls).labels (label_of_call entry.call) ≡ true

-- A node without a program makes no tick, and a call that is allowed.
pub record IsFreeTurn (decls : Decls) (before : State) (entry : Entry) : Type 0 where
  pub ticks : entry.ticks ≡ 0
  pub allowed : IsFreeCall decls before entry.node entry.call entry.reply
