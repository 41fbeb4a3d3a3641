-- A machine whose sends are given keeps them so, and its calls are given.
use Rattle.std.proofs.Common.{◌≡◌, ◌<◌, ◌-◌, ℕ, ℤ, pos, Bool, true, false, ◌&&◌, cond, List, [], ◌∷◌, ◌++◌, length, take, refl, ap, ◌∙◌, subst}
use Rattle.std.specs.Prelude.{replicate}
use Rattle.std.specs.List.{AllByRecursion as Each}
use Rattle.std.proofs.lemmas.List.{length-map}
use Rattle.dl_term.specs.Names.{Names, with_number}
use Rattle.dl_model.specs.declared.history.Call.{Call}
use Rattle.dl_model.specs.declared.history.Call.TheVariants as call
use Rattle.dl_model.specs.declared.history.Reply.{Reply}
use Rattle.dl_model.specs.declared.history.Reply.TheVariants.{Sent, Got, Miss, Value}
use Rattle.dl_model.specs.declared.program.Proc.{Proc}
use Rattle.dl_model.specs.declared.protocol.Instances.{Instances}
use Rattle.dl_model.specs.Sorts.{is_i64, all_i64}
use Rattle.dl_model.specs.Lookup.{proc_at}
use Rattle.dl_model.specs.Words.{me_word}
use Rattle.dl_model.specs.Block.{Block, Done, Sends, Awaits, Polls, Reads, Sets, Ifs, Whiles, Calls, joined}
use Rattle.dl_model.specs.Machine.{Machine, Working, Over, Frame, Next, Ticks, Asks, Ends, Stops, next, next_at, entered, returned, resumed, after_reply, after_reply_at, await_left, values_of, value_of, passes, packed, index_is_i64, index_value}
use Rattle.dl_soup.specs.Given.{CallIsGiven}
use Rattle.dl_nodes.specs.Given.{TagIsGiven, BlockIsGiven, ProcsAreGiven, FrameIsGiven, MachineIsGiven}

joined-given : (inst : Instances) (left more : Block) → BlockIsGiven inst left → BlockIsGiven inst more → BlockIsGiven inst (joined left more)
joined-given inst Done more h k = k
joined-given inst (Sends note label tag to args rest) more h k = (h.0, joined-given inst rest more h.1 k)
joined-given inst (Awaits note label tag sender args rest) more h k = joined-given inst rest more h k
joined-given inst (Polls note got label tag sender args rest) more h k = joined-given inst rest more h k
joined-given inst (Reads note into label field index rest) more h k = joined-given inst rest more h k
joined-given inst (Sets target value rest) more h k = joined-given inst rest more h k
joined-given inst (Ifs test left right rest) more h k = (h.0, joined-given inst rest more h.1 k)
joined-given inst (Whiles test note body rest) more h k = (h.0, joined-given inst rest more h.1 k)
joined-given inst (Calls note frame into proc args rest) more h k = joined-given inst rest more h k

-- ---- what may come next

-- a tick leads to a machine that is given, and a call is given
abbrev NextIsGiven : Instances → ℕ → Next → Type 0
NextIsGiven inst node (Ticks after) = MachineIsGiven inst after
NextIsGiven inst node (Asks call) = CallIsGiven inst node call
NextIsGiven inst node (Ends v) = Unit {0}
NextIsGiven inst node Stops = Unit {0}

resumed-given : (inst : Instances) (proc : ℕ) (names : Names) (v : ℤ) (left : Block) → BlockIsGiven inst left → FrameIsGiven inst (resumed proc names v left)
resumed-given inst proc names v Done h = h
resumed-given inst proc names v (Sends note label tag to args rest) h = h
resumed-given inst proc names v (Awaits note label tag sender args rest) h = h
resumed-given inst proc names v (Polls note got label tag sender args rest) h = h
resumed-given inst proc names v (Reads note into label field index rest) h = h
resumed-given inst proc names v (Sets target value rest) h = h
resumed-given inst proc names v (Ifs test left right rest) h = h
resumed-given inst proc names v (Whiles test note body rest) h = h
resumed-given inst proc names v (Calls note frame into callee args rest) h = h

returned-given : (inst : Instances) (callers : List Frame) (v : ℤ) → Each (FrameIsGiven inst) callers → MachineIsGiven inst (returned callers v)
returned-given inst [] v h = tt
returned-given inst (caller ∷ callers) v h = (resumed-given inst caller.proc caller.names v caller.left h.0, h.1)

front : {X : Type 0} (xs ys : List X) → take (length xs) (xs ++ ys) ≡ xs
front [] ys = refl
front (x ∷ xs) ys = ap (λ zs. x ∷ zs) (front xs ys)

sent-given : (inst : Instances) (node label tag : ℕ) (to : ℤ) (values : List ℤ) (count : ℕ) → node < inst.nodes → length values ≡ count → TagIsGiven inst label tag count → CallIsGiven inst node (call.Send label tag to (packed values))
sent-given inst node label tag to values count n e h = record {
  label = h.label;
  tag = h.tag;
  node = n;
  args = ap length (front values (replicate (8 - length values) (pos 0))) ∙ e ∙ h.args;
}

next-at-given : (inst : Instances) (procs : List Proc) (node proc : ℕ) (names : Names) (callers : List Frame) (left : Block) → node < inst.nodes → ProcsAreGiven inst procs → BlockIsGiven inst left → Each (FrameIsGiven inst) callers
    → NextIsGiven inst node (next_at procs proc names callers left)
next-at-given inst procs node proc names callers Done n given h k = go (is_i64 (value_of (proc_at procs proc).result names))
  where
    go : (b : Bool) → NextIsGiven inst node (cond b (Ticks (returned callers (value_of (proc_at procs proc).result names))) Stops)
    go true = returned-given inst callers (value_of (proc_at procs proc).result names) k
    go false = tt
next-at-given inst procs node proc names callers (Sets target value rest) n given h k =
    go (is_i64 (value_of value names)) (Working (record { proc = proc; left = rest; names = with_number names target (value_of value names) }) callers) (h, k)
  where
    go : (b : Bool) (after : Machine) → MachineIsGiven inst after → NextIsGiven inst node (cond b (Ticks after) Stops)
    go true after m = m
    go false after m = tt
next-at-given inst procs node proc names callers (Ifs test left right rest) n given h k = (go (passes test names), k)
  where
    go : (b : Bool) → BlockIsGiven inst (cond b (joined left rest) (joined right rest))
    go true = joined-given inst left rest h.0.0 h.1
    go false = joined-given inst right rest h.0.1 h.1
next-at-given inst procs node proc names callers (Whiles test note body rest) n given h k = (go (passes test names), k)
  where
    go : (b : Bool) → BlockIsGiven inst (cond b (joined body (Whiles test note body rest)) rest)
    go true = joined-given inst body (Whiles test note body rest) h.0 h
    go false = h.1
next-at-given inst procs node proc names callers (Calls note frame into callee args rest) n given h k =
    go (all_i64 (values_of args names))
    (Working (entered procs callee (names.number me_word) (values_of args names)) (record { proc = proc; left = Calls note frame into callee args rest; names = names } ∷ callers))
    (given.each callee, (h, k))
  where
    go : (b : Bool) (after : Machine) → MachineIsGiven inst after → NextIsGiven inst node (cond b (Ticks after) Stops)
    go true after m = m
    go false after m = tt
next-at-given inst procs node proc names callers (Sends note label tag to args rest) n given h k =
    go (is_i64 (value_of to names) && all_i64 (values_of args names)) (call.Send label tag (value_of to names) (packed (values_of args names)))
    (sent-given inst node label tag (value_of to names) (values_of args names) (length args) n (length-map args (λ term. value_of term names)) h.0)
  where
    go : (b : Bool) (call : Call) → CallIsGiven inst node call → NextIsGiven inst node (cond b (Asks call) Stops)
    go true call m = m
    go false call m = tt
next-at-given inst procs node proc names callers (Awaits note label tag sender args rest) n given h k = n
next-at-given inst procs node proc names callers (Polls note got label tag sender args rest) n given h k = n
next-at-given inst procs node proc names callers (Reads note into label field index rest) n given h k =
    go (index_is_i64 index names) (call.Read label field (index_value index names)) n
  where
    go : (b : Bool) (call : Call) → CallIsGiven inst node call → NextIsGiven inst node (cond b (Asks call) Stops)
    go true call m = m
    go false call m = tt

next-given : (inst : Instances) (procs : List Proc) (node : ℕ) (machine : Machine) → node < inst.nodes → ProcsAreGiven inst procs → MachineIsGiven inst machine → NextIsGiven inst node (next procs machine)
next-given inst procs node (Working frame callers) n given h = next-at-given inst procs node frame.proc frame.names callers frame.left n given h.0 h.1
next-given inst procs node (Over v) n given h = tt

pub tick-given : (inst : Instances) (procs : List Proc) (node : ℕ) (machine after : Machine) → node < inst.nodes → ProcsAreGiven inst procs → MachineIsGiven inst machine → next procs machine ≡ Ticks after → MachineIsGiven inst after
tick-given inst procs node machine after n given h e = subst (NextIsGiven inst node) e (next-given inst procs node machine n given h)

pub call-given : (inst : Instances) (procs : List Proc) (node : ℕ) (machine : Machine) (call : Call) → node < inst.nodes → ProcsAreGiven inst procs → MachineIsGiven inst machine → next procs machine ≡ Asks call → CallIsGiven inst node call
call-given inst procs node machine call n given h e = subst (NextIsGiven inst node) e (next-given inst procs node machine n given h)

-- ---- after a reply

await-left-given : (inst : Instances) (stays rest : Block) (reply : Reply) → BlockIsGiven inst stays → BlockIsGiven inst rest → BlockIsGiven inst (await_left stays rest reply)
await-left-given inst stays rest (Sent id) h k = h
await-left-given inst stays rest (Got id from args) h k = k
await-left-given inst stays rest Miss h k = h
await-left-given inst stays rest (Value v) h k = h

reply-at-given : (inst : Instances) (proc : ℕ) (names : Names) (callers : List Frame) (reply : Reply) (left : Block) → BlockIsGiven inst left → Each (FrameIsGiven inst) callers → MachineIsGiven inst (after_reply_at proc names callers reply left)
reply-at-given inst proc names callers reply Done h k = (h, k)
reply-at-given inst proc names callers reply (Sends note label tag to args rest) h k = (h.1, k)
reply-at-given inst proc names callers reply (Awaits note label tag sender args rest) h k =
    (await-left-given inst (Awaits note label tag sender args rest) rest reply h h, k)
reply-at-given inst proc names callers reply (Polls note got label tag sender args rest) h k = (h, k)
reply-at-given inst proc names callers reply (Reads note into label field index rest) h k = (h, k)
reply-at-given inst proc names callers reply (Sets target value rest) h k = (h, k)
reply-at-given inst proc names callers reply (Ifs test left right rest) h k = (h, k)
reply-at-given inst proc names callers reply (Whiles test note body rest) h k = (h, k)
reply-at-given inst proc names callers reply (Calls note frame into callee args rest) h k = (h, k)

pub reply-given : (inst : Instances) (machine : Machine) (reply : Reply) → MachineIsGiven inst machine → MachineIsGiven inst (after_reply machine reply)
reply-given inst (Working frame callers) reply h = reply-at-given inst frame.proc frame.names callers reply frame.left h.0 h.1
reply-given inst (Over v) reply h = tt
