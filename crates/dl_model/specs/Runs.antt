-- Events, and runs of them.
use Rattle.std.specs.Prelude.{◌≡◌, ℕ, ◌<◌, ℤ, pos, true, ◌==◌, if◌then◌else◌, Option, Some, None, List, [], ◌∷◌, unwrap_or, option_map, length, ◌⊎◌}
use Rattle.dl_term.specs.State.{State, field_at, soup_at}
use Rattle.dl_model.specs.declared.history.Call.{Call}
use Rattle.dl_model.specs.declared.history.Call.TheVariants as call
use Rattle.dl_model.specs.declared.history.Reply.{Reply}
use Rattle.dl_model.specs.declared.history.Reply.TheVariants.{Sent, Got, Miss, Value}
use Rattle.dl_model.specs.declared.history.Entry.{Entry}
use Rattle.dl_model.specs.declared.protocol.Instances.{Instances}
use Rattle.dl_model.specs.declared.file.Program.{Program}
use Rattle.dl_model.specs.declared.file.Decls.{Decls}
use Rattle.dl_model.specs.Sorts.{has}
use Rattle.dl_model.specs.Lookup.{composed, program_of}
use Rattle.dl_model.specs.States.{first_state}
use Rattle.dl_model.specs.Steps.{Step, Sending, Receiving, message_in, IsEnabled, IsReceivable, Meets, after_step}
use Rattle.dl_model.specs.Machine.{Machine, Working, Asks, next, Ticked, after_reply, entered, listed}

-- ---- a call and its reply

-- The message has the tag, and the node can receive it.
pub record IsMatch (inst : Instances) (state : State) (node label tag id : ℕ) : Type 0 where
  pub known : id < length (soup_at state label)
  pub tagged : (message_in state label id).tag ≡ tag
  pub receivable : IsReceivable inst state node label id

-- The reply names a match, its sender and its arguments.
pub record IsGot (inst : Instances) (state : State) (node label tag id from : ℕ) (args : List ℤ) : Type 0 where
  pub match : IsMatch inst state node label tag id
  pub sender : (message_in state label id).from ≡ from
  pub values : (message_in state label id).args ≡ args

abbrev pub HasNoMatch : Instances → State → ℕ → ℕ → ℕ → Type 0
HasNoMatch inst state node label tag = (id : ℕ) → IsMatch inst state node label tag id → ⊥

abbrev pub index_or_0 : Option ℤ → ℤ
index_or_0 index = unwrap_or index (pos 0)

-- the reply is one that the state may give to the node's call
abbrev pub Replies : Instances → State → ℕ → Call → Reply → Type 0
Replies inst state node (call.Send label tag to args) (Sent id) = id ≡ length (soup_at state label)
Replies inst state node (call.Poll label tag) (Got id from args) = IsGot inst state node label tag id from (listed args)
Replies inst state node (call.Poll label tag) Miss = HasNoMatch inst state node label tag
Replies inst state node (call.Await label tag) (Got id from args) = IsGot inst state node label tag id from (listed args)
Replies inst state node (call.Await label tag) Miss = HasNoMatch inst state node label tag
Replies inst state node (call.Read label field index) (Value v) = v ≡ field_at state label field (pos node) (index_or_0 index)
Replies inst state node _ _ = ⊥

-- the step that a call and its reply make, if they make one
abbrev pub step_of : Call → Reply → Option Step
step_of (call.Send label tag to args) reply = Some (Sending label tag to (listed args))
step_of (call.Poll label tag) (Got id from args) = Some (Receiving label id)
step_of (call.Await label tag) (Got id from args) = Some (Receiving label id)
step_of _ _ = None

abbrev pub state_after : Instances → State → ℕ → Option Step → State
state_after inst state node (Some step) = after_step inst state node step
state_after inst state node None = state

abbrev pub label_of_call : Call → ℕ
label_of_call (call.Send label tag to args) = label
label_of_call (call.Poll label tag) = label
label_of_call (call.Await label tag) = label
label_of_call (call.Read label field index) = label

-- ---- events

-- the state of the world, and the machine of each node that runs a program
pub record Config : Type 0 where
  pub state : State
  pub machines : ℕ → Option Machine

-- A node with a program takes its ticks, makes the call that its machine then asks, and takes the reply.
pub record ProgramEvent (decls : Decls) (before : Config) (entry : Entry) (after : Config) : Type 0 where
  pub machine : Machine
  pub asking : Machine
  pub there : before.machines entry.node ≡ Some machine
  pub ticks : Ticked decls.procs entry.ticks machine asking
  pub asks : next decls.procs asking ≡ Asks entry.call
  pub replies : Replies decls.inst before.state entry.node entry.call entry.reply
  pub state : after.state ≡ state_after decls.inst before.state entry.node (step_of entry.call entry.reply)
  pub machines : (node : ℕ) → after.machines node ≡ (if node == entry.node then Some (after_reply asking entry.reply) else before.machines node)

-- A free node sends where the send is enabled and meets the hooks of the composed world, or receives by a poll.
abbrev pub IsFreeCall : Decls → State → ℕ → Call → Reply → Type 0
IsFreeCall decls state node (call.Send label tag to args) (Sent id) =
    (id ≡ length (soup_at state label)) × IsEnabled decls.inst state node label tag to (listed args) ×
    Meets decls (composed decls) state node (Sending label tag to (listed args))
IsFreeCall decls state node (call.Poll label tag) (Got id from args) = IsGot decls.inst state node label tag id from (listed args)
IsFreeCall decls state node _ _ = ⊥

pub record FreeEvent (decls : Decls) (before : Config) (entry : Entry) (after : Config) : Type 0 where
  pub free : before.machines entry.node ≡ None
  pub ticks : entry.ticks ≡ 0
  pub allowed : IsFreeCall decls before.state entry.node entry.call entry.reply
  pub state : after.state ≡ state_after decls.inst before.state entry.node (step_of entry.call entry.reply)
  pub machines : (node : ℕ) → after.machines node ≡ before.machines node

-- The entry is an event at a label of the composed world, and leads from the one configuration to the other.
pub record Event (decls : Decls) (before : Config) (entry : Entry) (after : Config) : Type 0 where
  pub node : entry.node < decls.inst.nodes
  pub label : has (composed decls).labels (label_of_call entry.call) ≡ true
  pub acts : ProgramEvent decls before entry after ⊎ FreeEvent decls before entry after

-- ---- runs

-- the events lead from the one configuration to the other
abbrev pub Leads : Decls → Config → List Entry → Config → Type 0
Leads decls before [] after = before ≡ after
Leads decls before (entry ∷ entries) after = (mid : Config) × Event decls before entry mid × Leads decls mid entries after

-- the machine of a node at the beginning of its program
abbrev pub machine_of : Decls → ℕ → Program → Machine
machine_of decls node program = Working (entered decls.procs program.proc (pos node) program.constants) []

-- the first state, with the nodes' machines at the beginning of their programs
abbrev pub initial : Decls → Config
initial decls = record { state = first_state decls.inst; machines = λ node. option_map (machine_of decls node) (program_of decls node) }

-- the first state, where no node runs a program
abbrev pub initial_free : Decls → Config
initial_free decls = record { state = first_state decls.inst; machines = λ node. None }

abbrev pub IsRun : Decls → List Entry → Config → Type 0
IsRun decls entries after = Leads decls (initial decls) entries after

abbrev pub IsFreeRun : Decls → List Entry → Config → Type 0
IsFreeRun decls entries after = Leads decls (initial_free decls) entries after
