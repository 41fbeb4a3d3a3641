-- Histories: the entries of one node, runs of the soup alone, traces of a machine, and a history without its waits.
use Rattle.std.specs.Prelude.{◌≡◌, ℕ, ◌+◌, ◌<◌, Bool, true, false, ◌==◌, if◌then◌else◌, Some, List, [], ◌∷◌}
use Rattle.std.specs.List.{AllByRecursion as Each, filter}
use Rattle.dl_term.specs.State.{State}
use Rattle.dl_model.specs.declared.history.Call.{Call}
use Rattle.dl_model.specs.declared.history.Call.TheVariants as call
use Rattle.dl_model.specs.declared.history.Reply.{Reply}
use Rattle.dl_model.specs.declared.history.Reply.TheVariants.{Miss}
use Rattle.dl_model.specs.declared.history.Entry.{Entry}
use Rattle.dl_model.specs.declared.protocol.Instances.{Instances}
use Rattle.dl_model.specs.declared.program.Proc.{Proc}
use Rattle.dl_model.specs.declared.file.Program.{Program}
use Rattle.dl_model.specs.declared.file.Decls.{Decls}
use Rattle.dl_model.specs.Sorts.{has}
use Rattle.dl_model.specs.Lookup.{composed, program_of}
use Rattle.dl_model.specs.States.{first_state}
use Rattle.dl_model.specs.Machine.{Machine, Asks, next, Ticked, after_reply}
use Rattle.dl_model.specs.Runs.{Replies, step_of, state_after, label_of_call, machine_of}

-- the entries of the node
abbrev pub mine : List Entry → ℕ → List Entry
mine entries node = filter (λ entry. node == entry.node) entries

-- the calls and replies lead from one state to the other, machines and worlds aside
abbrev pub SoupLeads : Instances → State → List Entry → State → Type 0
SoupLeads inst before [] after = before ≡ after
SoupLeads inst before (entry ∷ entries) after =
    (entry.node < inst.nodes) × Replies inst before entry.node entry.call entry.reply ×
    SoupLeads inst (state_after inst before entry.node (step_of entry.call entry.reply)) entries after

-- the machine takes these ticks and makes these calls, where it gets these replies
abbrev pub IsTrace : List Proc → Machine → List Entry → Type 0
IsTrace procs machine [] = Unit {0}
IsTrace procs machine (entry ∷ entries) =
    (asking : Machine) × Ticked procs entry.ticks machine asking × (next procs asking ≡ Asks entry.call) × IsTrace procs (after_reply asking entry.reply) entries

abbrev pub HasProgram : Decls → Entry → Type 0
HasProgram decls entry = (program : Program) × (program_of decls entry.node ≡ Some program)

abbrev pub IsOfWorld : Decls → Entry → Type 0
IsOfWorld decls entry = has (composed decls).labels (label_of_call entry.call) ≡ true

-- A run of the soup at labels of the composed world, in which the entries of each node with a program are a trace of its machine.
pub record IsSoupRun (decls : Decls) (entries : List Entry) (after : State) : Type 0 where
  pub leads : SoupLeads decls.inst (first_state decls.inst) entries after
  pub labels : Each (IsOfWorld decls) entries
  pub traces : (node : ℕ) (program : Program) → program_of decls node ≡ Some program → IsTrace decls.procs (machine_of decls node program) (mine entries node)

-- ---- waits

-- an await without a message
abbrev pub is_wait_of : Call → Reply → Bool
is_wait_of (call.Await label tag) Miss = true
is_wait_of _ _ = false

abbrev pub is_wait : Entry → Bool
is_wait entry = is_wait_of entry.call entry.reply

abbrev pub with_ticks : (ℕ → ℕ) → ℕ → ℕ → ℕ → ℕ
with_ticks ticks node n other = if other == node then n else ticks other

-- The waits are left out, and their ticks are added to the next entry of the same node that is no wait. `ticks` are those of each node from before.
abbrev pub condensed_from : (ℕ → ℕ) → List Entry → List Entry
condensed_from ticks [] = []
condensed_from ticks (entry ∷ entries) =
    if is_wait entry
    then condensed_from (with_ticks ticks entry.node (ticks entry.node + entry.ticks)) entries
    else record { node = entry.node; ticks = ticks entry.node + entry.ticks; call = entry.call; reply = entry.reply } ∷ condensed_from (with_ticks ticks entry.node 0) entries

abbrev pub condensed : List Entry → List Entry
condensed entries = condensed_from (λ node. 0) entries
