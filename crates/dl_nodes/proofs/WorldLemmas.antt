-- In a file that keeps to its worlds each call of a program is at a label of the composed world.
use Rattle.std.proofs.Common.{◌≡◌, ◌==◌, ℕ, ℤ, zero, suc, Bool, true, false, ◌&&◌, cond, Option, Some, None, List, [], ◌∷◌, refl, subst}
use Rattle.std.proofs.Common.{eq-eqb, slice_get, unwrap_or}
use Rattle.std.specs.List.{AllByRecursion as Each}
use Rattle.std.proofs.lemmas.Option.{slice_get_within}
use Rattle.dl_term.specs.Names.{Names, with_number}
use Rattle.dl_model.specs.declared.file.Decls.{Decls}
use Rattle.dl_model.specs.declared.file.Program.{Program}
use Rattle.dl_model.specs.declared.file.World.{World}
use Rattle.dl_model.specs.declared.history.Call.{Call}
use Rattle.dl_model.specs.declared.history.Call.TheVariants as call
use Rattle.dl_model.specs.declared.history.Entry.{Entry}
use Rattle.dl_model.specs.declared.history.Order.{Order}
use Rattle.dl_model.specs.declared.history.Reply.{Reply}
use Rattle.dl_model.specs.declared.history.Reply.TheVariants.{Sent, Got, Miss, Value}
use Rattle.dl_model.specs.declared.program.Proc.{Proc}
use Rattle.dl_model.specs.Block.{Block, Done, Sends, Awaits, Polls, Reads, Sets, Ifs, Whiles, Calls, joined, block_of}
use Rattle.dl_model.specs.Formed.{IsFormed}
use Rattle.dl_model.specs.Histories.{HasProgram, IsOfWorld, IsSoupRun, IsTrace, mine}
use Rattle.dl_model.specs.Lookup.{composed, no_proc, proc_at, program_of, world_of}
use Rattle.dl_model.specs.Machine.{Machine, Working, Over, Frame, Next, Ticks, Asks, Ends, Stops, Ticked, after_reply, after_reply_at, await_left, entered, index_is_i64, index_value, next, next_at, packed, passes, resumed, returned, value_of, values_of}
use Rattle.dl_model.specs.Runs.{label_of_call, machine_of}
use Rattle.dl_model.specs.Sorts.{all_i64, has, is_i64}
use Rattle.dl_model.specs.Words.{me_word}
use Rattle.dl_model.specs.Worlds.{BlockKeepsWorlds, KeepsWorlds}
use Rattle.dl_soup.specs.Kept.{IsKept}
use Rattle.dl_nodes.specs.declared.begin.Run.{Run}
use Rattle.dl_nodes.specs.Begun.{IsSerialRun}
use Rattle.dl_nodes.proofs.TraceLemmas.{serial-traced}

-- the labels of the procedure's world are labels of the composed one
abbrev IsInside : Decls → ℕ → Type 0
IsInside decls proc = (label : ℕ) → has (world_of decls proc).labels label ≡ true → has (composed decls).labels label ≡ true

abbrev FrameKeeps : Decls → Frame → Type 0
FrameKeeps decls frame = IsInside decls frame.proc × BlockKeepsWorlds decls (world_of decls frame.proc) frame.left

abbrev MachineKeeps : Decls → Machine → Type 0
MachineKeeps decls (Working frame callers) = FrameKeeps decls frame × Each (FrameKeeps decls) callers
MachineKeeps decls (Over v) = Unit {0}

abbrev IsAtLabel : Decls → Call → Type 0
IsAtLabel decls call = has (composed decls).labels (label_of_call call) ≡ true

abbrev NextKeeps : Decls → Next → Type 0
NextKeeps decls (Ticks after) = MachineKeeps decls after
NextKeeps decls (Asks call) = IsAtLabel decls call
NextKeeps decls (Ends v) = Unit {0}
NextKeeps decls Stops = Unit {0}

joined-keeps : (decls : Decls) (world : World) (left more : Block) → BlockKeepsWorlds decls world left → BlockKeepsWorlds decls world more → BlockKeepsWorlds decls world (joined left more)
joined-keeps decls world Done more h k = k
joined-keeps decls world (Sends note label tag to args rest) more h k = (h.0, h.1, joined-keeps decls world rest more h.2 k)
joined-keeps decls world (Awaits note label tag sender args rest) more h k = (h.0, h.1, joined-keeps decls world rest more h.2 k)
joined-keeps decls world (Polls note got label tag sender args rest) more h k = (h.0, h.1, joined-keeps decls world rest more h.2 k)
joined-keeps decls world (Reads note into label field index rest) more h k = (h.0, h.1, joined-keeps decls world rest more h.2 k)
joined-keeps decls world (Sets target value rest) more h k = joined-keeps decls world rest more h k
joined-keeps decls world (Ifs test left right rest) more h k = (h.0, h.1, joined-keeps decls world rest more h.2 k)
joined-keeps decls world (Whiles test note body rest) more h k = (h.0, h.1, joined-keeps decls world rest more h.2 k)
joined-keeps decls world (Calls note frame into callee args rest) more h k = (h.0, h.1, joined-keeps decls world rest more h.2 k)

proc-keeps : (decls : Decls) (proc : ℕ) (found : Option Proc) → KeepsWorlds decls → slice_get decls.procs proc ≡ found → BlockKeepsWorlds decls (world_of decls proc) (block_of (unwrap_or found no_proc).body)
proc-keeps decls proc (Some p) worlds e =
    subst (λ (o : Option Proc). BlockKeepsWorlds decls (world_of decls proc) (block_of (unwrap_or o no_proc).body)) e (worlds.procs proc (slice_get_within decls.procs proc p e)).body
proc-keeps decls proc None worlds e = tt

-- ---- what comes next

resumed-keeps : (decls : Decls) (proc : ℕ) (names : Names) (v : ℤ) (left : Block) → IsInside decls proc → BlockKeepsWorlds decls (world_of decls proc) left → FrameKeeps decls (resumed proc names v left)
resumed-keeps decls proc names v Done w h = (w, h)
resumed-keeps decls proc names v (Sends note label tag to args rest) w h = (w, h)
resumed-keeps decls proc names v (Awaits note label tag sender args rest) w h = (w, h)
resumed-keeps decls proc names v (Polls note got label tag sender args rest) w h = (w, h)
resumed-keeps decls proc names v (Reads note into label field index rest) w h = (w, h)
resumed-keeps decls proc names v (Sets target value rest) w h = (w, h)
resumed-keeps decls proc names v (Ifs test left right rest) w h = (w, h)
resumed-keeps decls proc names v (Whiles test note body rest) w h = (w, h)
resumed-keeps decls proc names v (Calls note frame into callee args rest) w h = (w, h.2)

returned-keeps : (decls : Decls) (callers : List Frame) (v : ℤ) → Each (FrameKeeps decls) callers → MachineKeeps decls (returned callers v)
returned-keeps decls [] v h = tt
returned-keeps decls (caller ∷ callers) v h = (resumed-keeps decls caller.proc caller.names v caller.left h.0.0 h.0.1, h.1)

next-at-keeps : (decls : Decls) (proc : ℕ) (names : Names) (callers : List Frame) (left : Block) → KeepsWorlds decls → IsInside decls proc → BlockKeepsWorlds decls (world_of decls proc) left → Each (FrameKeeps decls) callers
    → NextKeeps decls (next_at decls.procs proc names callers left)
next-at-keeps decls proc names callers Done worlds w h k = go (is_i64 (value_of (proc_at decls.procs proc).result names))
  where
    go : (b : Bool) → NextKeeps decls (cond b (Ticks (returned callers (value_of (proc_at decls.procs proc).result names))) Stops)
    go true = returned-keeps decls callers (value_of (proc_at decls.procs proc).result names) k
    go false = tt
next-at-keeps decls proc names callers (Sets target value rest) worlds w h k =
    go (is_i64 (value_of value names)) (Working (record { proc = proc; left = rest; names = with_number names target (value_of value names) }) callers) ((w, h), k)
  where
    go : (b : Bool) (after : Machine) → MachineKeeps decls after → NextKeeps decls (cond b (Ticks after) Stops)
    go true after m = m
    go false after m = tt
next-at-keeps decls proc names callers (Ifs test left right rest) worlds w h k = ((w, go (passes test names)), k)
  where
    go : (b : Bool) → BlockKeepsWorlds decls (world_of decls proc) (cond b (joined left rest) (joined right rest))
    go true = joined-keeps decls (world_of decls proc) left rest h.0 h.2
    go false = joined-keeps decls (world_of decls proc) right rest h.1 h.2
next-at-keeps decls proc names callers (Whiles test note body rest) worlds w h k = ((w, go (passes test names)), k)
  where
    go : (b : Bool) → BlockKeepsWorlds decls (world_of decls proc) (cond b (joined body (Whiles test note body rest)) rest)
    go true = joined-keeps decls (world_of decls proc) body (Whiles test note body rest) h.1 h
    go false = h.2
next-at-keeps decls proc names callers (Calls note frame into callee args rest) worlds w h k =
    go (all_i64 (values_of args names))
    (Working (entered decls.procs callee (names.number me_word) (values_of args names)) (record { proc = proc; left = Calls note frame into callee args rest; names = names } ∷ callers))
    ((λ label known. w label (h.1.2.labels label known), proc-keeps decls callee (slice_get decls.procs callee) worlds refl), ((w, h), k))
  where
    go : (b : Bool) (after : Machine) → MachineKeeps decls after → NextKeeps decls (cond b (Ticks after) Stops)
    go true after m = m
    go false after m = tt
next-at-keeps decls proc names callers (Sends note label tag to args rest) worlds w h k =
    go (is_i64 (value_of to names) && all_i64 (values_of args names)) (call.Send label tag (value_of to names) (packed (values_of args names))) (w label h.1)
  where
    go : (b : Bool) (call : Call) → IsAtLabel decls call → NextKeeps decls (cond b (Asks call) Stops)
    go true call m = m
    go false call m = tt
next-at-keeps decls proc names callers (Awaits note label tag sender args rest) worlds w h k = w label h.1
next-at-keeps decls proc names callers (Polls note got label tag sender args rest) worlds w h k = w label h.1
next-at-keeps decls proc names callers (Reads note into label field index rest) worlds w h k =
    go (index_is_i64 index names) (call.Read label field (index_value index names)) (w label h.1)
  where
    go : (b : Bool) (call : Call) → IsAtLabel decls call → NextKeeps decls (cond b (Asks call) Stops)
    go true call m = m
    go false call m = tt

next-keeps : (decls : Decls) (machine : Machine) → KeepsWorlds decls → MachineKeeps decls machine → NextKeeps decls (next decls.procs machine)
next-keeps decls (Working frame callers) worlds h = next-at-keeps decls frame.proc frame.names callers frame.left worlds h.0.0 h.0.1 h.1
next-keeps decls (Over v) worlds h = tt

-- ---- after a reply

await-keeps : (decls : Decls) (world : World) (stays rest : Block) (reply : Reply) → BlockKeepsWorlds decls world stays → BlockKeepsWorlds decls world rest → BlockKeepsWorlds decls world (await_left stays rest reply)
await-keeps decls world stays rest (Sent id) h k = h
await-keeps decls world stays rest (Got id from args) h k = k
await-keeps decls world stays rest Miss h k = h
await-keeps decls world stays rest (Value v) h k = h

reply-at-keeps : (decls : Decls) (proc : ℕ) (names : Names) (callers : List Frame) (reply : Reply) (left : Block) → IsInside decls proc → BlockKeepsWorlds decls (world_of decls proc) left → Each (FrameKeeps decls) callers
    → MachineKeeps decls (after_reply_at proc names callers reply left)
reply-at-keeps decls proc names callers reply Done w h k = ((w, h), k)
reply-at-keeps decls proc names callers reply (Sends note label tag to args rest) w h k = ((w, h.2), k)
reply-at-keeps decls proc names callers reply (Awaits note label tag sender args rest) w h k =
    ((w, await-keeps decls (world_of decls proc) (Awaits note label tag sender args rest) rest reply h h.2), k)
reply-at-keeps decls proc names callers reply (Polls note got label tag sender args rest) w h k = ((w, h.2), k)
reply-at-keeps decls proc names callers reply (Reads note into label field index rest) w h k = ((w, h.2), k)
reply-at-keeps decls proc names callers reply (Sets target value rest) w h k = ((w, h), k)
reply-at-keeps decls proc names callers reply (Ifs test left right rest) w h k = ((w, h), k)
reply-at-keeps decls proc names callers reply (Whiles test note body rest) w h k = ((w, h), k)
reply-at-keeps decls proc names callers reply (Calls note frame into callee args rest) w h k = ((w, h), k)

reply-keeps : (decls : Decls) (machine : Machine) (reply : Reply) → MachineKeeps decls machine → MachineKeeps decls (after_reply machine reply)
reply-keeps decls (Working frame callers) reply h = reply-at-keeps decls frame.proc frame.names callers reply frame.left h.0.0 h.0.1 h.1
reply-keeps decls (Over v) reply h = tt

-- ---- a trace

ticked-keeps : (decls : Decls) (k : ℕ) (m n : Machine) → KeepsWorlds decls → Ticked decls.procs k m n → MachineKeeps decls m → MachineKeeps decls n
ticked-keeps decls zero m n worlds h keeps = subst (MachineKeeps decls) h keeps
ticked-keeps decls (suc k) m n worlds h keeps = ticked-keeps decls k h.0 n worlds h.2 (subst (NextKeeps decls) h.1 (next-keeps decls m worlds keeps))

trace-keeps : (decls : Decls) (m : Machine) (entries : List Entry) → KeepsWorlds decls → IsTrace decls.procs m entries → MachineKeeps decls m → Each (IsOfWorld decls) entries
trace-keeps decls m [] worlds h keeps = tt
trace-keeps decls m (e ∷ entries) worlds h keeps =
    let asking : MachineKeeps decls h.0 = ticked-keeps decls e.ticks m h.0 worlds h.1 keeps in
    let here : NextKeeps decls (Asks e.call) = subst (NextKeeps decls) h.2 (next-keeps decls h.0 worlds asking) in
    (here, trace-keeps decls (after_reply h.0 e.reply) entries worlds h.3 (reply-keeps decls h.0 e.reply asking))

start-keeps : (decls : Decls) (node : ℕ) (program : Program) → KeepsWorlds decls → program_of decls node ≡ Some program → MachineKeeps decls (machine_of decls node program)
start-keeps decls node program worlds e = (((worlds.programs node program e).labels, proc-keeps decls program.proc (slice_get decls.procs program.proc) worlds refl), tt)

-- ---- the whole history

mine-rest : (P : Entry → Type 0) (e : Entry) (entries : List Entry) (node : ℕ) → Each P (mine (e ∷ entries) node) → Each P (mine entries node)
mine-rest P e entries node h = go (node == e.node) h
  where
    go : (b : Bool) → Each P (cond b (e ∷ mine entries node) (mine entries node)) → Each P (mine entries node)
    go true k = k.1
    go false k = k

mine-first : (P : Entry → Type 0) (e : Entry) (entries : List Entry) → Each P (mine (e ∷ entries) e.node) → P e
mine-first P e entries h = go (e.node == e.node) (eq-eqb e.node e.node refl) h
  where
    go : (b : Bool) → b ≡ true → Each P (cond b (e ∷ mine entries e.node) (mine entries e.node)) → P e
    go true q k = k.0
    go false q k = cc

each-of : (decls : Decls) (P : Entry → Type 0) (entries : List Entry) → Each (HasProgram decls) entries → ((node : ℕ) (program : Program) → program_of decls node ≡ Some program → Each P (mine entries node)) → Each P entries
each-of decls P [] h k = tt
each-of decls P (e ∷ entries) h k =
    (mine-first P e entries (k e.node h.0.0 h.0.1), each-of decls P entries h.1 (λ node program q. mine-rest P e entries node (k node program q)))

pub serial-runs : (decls : Decls) (budget : ℕ) (order : Order) (run : Run) → IsFormed decls → KeepsWorlds decls → IsSerialRun decls budget order run → IsKept run.soup → IsSoupRun decls run.soup.history run.soup.state
serial-runs decls budget order run formed worlds h own =
    let traced = serial-traced decls budget order run formed h own in
    record {
      leads = traced.leads;
      labels = each-of decls (IsOfWorld decls) run.soup.history traced.entries
          (λ node program e. trace-keeps decls (machine_of decls node program) (mine run.soup.history node) worlds (traced.traces node program e) (start-keeps decls node program worlds e));
      traces = traced.traces;
    }
