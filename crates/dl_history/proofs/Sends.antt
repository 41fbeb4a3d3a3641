-- The machines of a formed file send with the arguments that their tags have.
use Rattle.std.proofs.Common.{◌≡◌, ℕ, zero, suc, ◌-◌, ℤ, pos, Bool, true, false, Option, Some, None, List, [], ◌∷◌, length, refl, ap, ◌∙◌, subst, cond}
use Rattle.std.specs.Prelude.{slice_get, unwrap_or, replicate}
use Rattle.std.specs.List.{AllByRecursion as Each}
use Rattle.std.proofs.lemmas.List.{length-map}
use Rattle.std.proofs.Math.Seq.{take-append_seam}
use Rattle.dl_term.specs.declared.syntax.Lab.TheVariants.{At}
use Rattle.dl_term.specs.declared.syntax.Term.{Term}
use Rattle.dl_term.specs.Names.{Names}
use Rattle.dl_model.specs.declared.history.Call.{Call}
use Rattle.dl_model.specs.declared.history.Call.TheVariants as call
use Rattle.dl_model.specs.declared.history.Reply.{Reply}
use Rattle.dl_model.specs.declared.history.Reply.TheVariants as reply
use Rattle.dl_model.specs.declared.program.Proc.{Proc}
use Rattle.dl_model.specs.declared.file.Decls.{Decls}
use Rattle.dl_model.specs.Block.{Block, Done, Sends, Awaits, Polls, Reads, Sets, Ifs, Whiles, Calls, joined, block_of}
use Rattle.dl_model.specs.Lookup.{proc_at, no_proc, tag_at}
use Rattle.dl_model.specs.Scopes.{file_label, is_tag}
use Rattle.dl_model.specs.Formed.{IsFormed, BlockIsFormed}
use Rattle.dl_model.specs.Machine.{Frame, Machine, Working, Over, Ticks, Asks, Stops, next, next_at, Ticked, returned, resumed, after_reply, after_reply_at, await_left, listed, packed, values_of, value_of}
use Rattle.dl_history.specs.Sends.{SendsAreGiven, FrameIsGiven, MachineIsGiven}

-- ---- formed procedures

block-sends : (d : Decls) (number : ℕ) (proc : Proc) (block : Block) → BlockIsFormed d number proc block → SendsAreGiven d block
block-sends d number proc Done h = tt
block-sends d number proc (Sends note label tag to args rest) h = ((h.1, h.2), block-sends d number proc rest h.5)
block-sends d number proc (Awaits note label tag sender args rest) h = block-sends d number proc rest h.4
block-sends d number proc (Polls note got label tag sender args rest) h = block-sends d number proc rest h.4
block-sends d number proc (Reads note into label field index rest) h = block-sends d number proc rest h.4
block-sends d number proc (Sets target value rest) h = block-sends d number proc rest h.2
block-sends d number proc (Ifs test left right rest) h = ((block-sends d number proc left h.1, block-sends d number proc right h.2), block-sends d number proc rest h.3)
block-sends d number proc (Whiles test note body rest) h = (block-sends d number proc body h.2, block-sends d number proc rest h.3)
block-sends d number proc (Calls note frame into callee args rest) h = block-sends d number proc rest h.6

pub proc-sends : (d : Decls) (number : ℕ) → IsFormed d → SendsAreGiven d (block_of (proc_at d.procs number).body)
proc-sends d number h = there (slice_get d.procs number) refl
  where
    there : (found : Option Proc) → slice_get d.procs number ≡ found → SendsAreGiven d (block_of (unwrap_or found no_proc).body)
    there (Some proc) e = block-sends d number proc (block_of proc.body) (h.procs number proc e).body
    there None e = tt

-- ---- ticks

sends-joined : (d : Decls) (a b : Block) → SendsAreGiven d a → SendsAreGiven d b → SendsAreGiven d (joined a b)
sends-joined d Done b h k = k
sends-joined d (Sends note label tag to args rest) b h k = (h.0, sends-joined d rest b h.1 k)
sends-joined d (Awaits note label tag sender args rest) b h k = sends-joined d rest b h k
sends-joined d (Polls note got label tag sender args rest) b h k = sends-joined d rest b h k
sends-joined d (Reads note into label field index rest) b h k = sends-joined d rest b h k
sends-joined d (Sets target value rest) b h k = sends-joined d rest b h k
sends-joined d (Ifs test left right rest) b h k = (h.0, sends-joined d rest b h.1 k)
sends-joined d (Whiles test note body rest) b h k = (h.0, sends-joined d rest b h.1 k)
sends-joined d (Calls note frame into callee args rest) b h k = sends-joined d rest b h k

resumed-sends : (d : Decls) (proc : ℕ) (names : Names) (v : ℤ) (left : Block) → SendsAreGiven d left → FrameIsGiven d (resumed proc names v left)
resumed-sends d proc names v Done h = h
resumed-sends d proc names v (Sends note label tag to args rest) h = h
resumed-sends d proc names v (Awaits note label tag sender args rest) h = h
resumed-sends d proc names v (Polls note got label tag sender args rest) h = h
resumed-sends d proc names v (Reads note into label field index rest) h = h
resumed-sends d proc names v (Sets target value rest) h = h
resumed-sends d proc names v (Ifs test left right rest) h = h
resumed-sends d proc names v (Whiles test note body rest) h = h
resumed-sends d proc names v (Calls note frame into callee args rest) h = h

returned-sends : (d : Decls) (callers : List Frame) (v : ℤ) → Each (FrameIsGiven d) callers → MachineIsGiven d (returned callers v)
returned-sends d [] v h = tt
returned-sends d (caller ∷ callers) v h = (resumed-sends d caller.proc caller.names v caller.left h.0, h.1)

tick-is : (a b : Machine) → Ticks a ≡ Ticks b → a ≡ b
tick-is a b e = cc

tick-if : (b : Bool) (a m : Machine) → cond b (Ticks a) Stops ≡ Ticks m → a ≡ m
tick-if true a m e = tick-is a m e
tick-if false a m e = cc

ask-no-tick : (b : Bool) (c : Call) (m : Machine) → cond b (Asks c) Stops ≡ Ticks m → ⊥
ask-no-tick true c m e = cc
ask-no-tick false c m e = cc

either-sends : (d : Decls) (b : Bool) (x y : Block) → SendsAreGiven d x → SendsAreGiven d y → SendsAreGiven d (cond b x y)
either-sends d true x y h k = h
either-sends d false x y h k = k

tick-sends_at : (d : Decls) → IsFormed d → (proc : ℕ) (names : Names) (callers : List Frame) (left : Block) (m : Machine) → SendsAreGiven d left → Each (FrameIsGiven d) callers →
    next_at d.procs proc names callers left ≡ Ticks m → MachineIsGiven d m
tick-sends_at d formed proc names callers Done m h c e =
    subst (MachineIsGiven d) (tick-if _ _ m e) (returned-sends d callers (value_of (proc_at d.procs proc).result names) c)
tick-sends_at d formed proc names callers (Sets target value rest) m h c e = subst (MachineIsGiven d) (tick-if _ _ m e) (h, c)
tick-sends_at d formed proc names callers (Ifs test left right rest) m h c e =
    subst (MachineIsGiven d) (tick-is _ m e) (either-sends d _ (joined left rest) (joined right rest) (sends-joined d left rest h.0.0 h.1) (sends-joined d right rest h.0.1 h.1), c)
tick-sends_at d formed proc names callers (Whiles test note body rest) m h c e =
    subst (MachineIsGiven d) (tick-is _ m e) (either-sends d _ (joined body (Whiles test note body rest)) rest (sends-joined d body (Whiles test note body rest) h.0 h) h.1, c)
tick-sends_at d formed proc names callers (Calls note frame into callee args rest) m h c e = subst (MachineIsGiven d) (tick-if _ _ m e) (proc-sends d callee formed, (h, c))
tick-sends_at d formed proc names callers (Sends note label tag to args rest) m h c e = absurd (ask-no-tick _ _ m e)
tick-sends_at d formed proc names callers (Awaits note label tag sender args rest) m h c e = cc
tick-sends_at d formed proc names callers (Polls note got label tag sender args rest) m h c e = cc
tick-sends_at d formed proc names callers (Reads note into label field index rest) m h c e = absurd (ask-no-tick _ _ m e)

tick-sends : (d : Decls) → IsFormed d → (a b : Machine) → MachineIsGiven d a → next d.procs a ≡ Ticks b → MachineIsGiven d b
tick-sends d formed (Over v) b h e = cc
tick-sends d formed (Working frame callers) b h e = tick-sends_at d formed frame.proc frame.names callers frame.left b h.0 h.1 e

pub ticked-sends : (d : Decls) → IsFormed d → (k : ℕ) (a b : Machine) → MachineIsGiven d a → Ticked d.procs k a b → MachineIsGiven d b
ticked-sends d formed zero a b h t = subst (MachineIsGiven d) t h
ticked-sends d formed (suc k) a b h t = ticked-sends d formed k t.0 b (tick-sends d formed a t.0 h t.1) t.2

-- ---- replies

await-sends : (d : Decls) (stays rest : Block) (r : Reply) → SendsAreGiven d stays → SendsAreGiven d rest → SendsAreGiven d (await_left stays rest r)
await-sends d stays rest (reply.Sent id) h k = h
await-sends d stays rest (reply.Got id from args) h k = k
await-sends d stays rest reply.Miss h k = h
await-sends d stays rest (reply.Value v) h k = h

reply-sends_at : (d : Decls) (proc : ℕ) (names : Names) (callers : List Frame) (r : Reply) (left : Block) → SendsAreGiven d left → Each (FrameIsGiven d) callers → MachineIsGiven d (after_reply_at proc names callers r left)
reply-sends_at d proc names callers r Done h c = (h, c)
reply-sends_at d proc names callers r (Sends note label tag to args rest) h c = (h.1, c)
reply-sends_at d proc names callers r (Awaits note label tag sender args rest) h c = (await-sends d (Awaits note label tag sender args rest) rest r h h, c)
reply-sends_at d proc names callers r (Polls note got label tag sender args rest) h c = (h, c)
reply-sends_at d proc names callers r (Reads note into label field index rest) h c = (h, c)
reply-sends_at d proc names callers r (Sets target value rest) h c = (h, c)
reply-sends_at d proc names callers r (Ifs test left right rest) h c = (h, c)
reply-sends_at d proc names callers r (Whiles test note body rest) h c = (h, c)
reply-sends_at d proc names callers r (Calls note frame into callee args rest) h c = (h, c)

pub reply-sends : (d : Decls) (m : Machine) (r : Reply) → MachineIsGiven d m → MachineIsGiven d (after_reply m r)
reply-sends d (Over v) r h = tt
reply-sends d (Working frame callers) r h = reply-sends_at d frame.proc frame.names callers r frame.left h.0 h.1

-- ---- calls

-- a send is of a tag that exists, with as many arguments as the tag has
abbrev pub HasTag : Decls → Call → Type 0
HasTag d (call.Send label tag to args) = (is_tag (file_label d.inst (At label)) tag ≡ true) × (length (listed args) ≡ length (tag_at d.inst label tag).args)
HasTag d (call.Poll label tag) = Unit {0}
HasTag d (call.Await label tag) = Unit {0}
HasTag d (call.Read label field index) = Unit {0}

tick-no-ask : (b : Bool) (m : Machine) (c : Call) → cond b (Ticks m) Stops ≡ Asks c → ⊥
tick-no-ask true m c e = cc
tick-no-ask false m c e = cc

ask-is : (a c : Call) → Asks a ≡ Asks c → a ≡ c
ask-is a c e = cc

ask-if : (b : Bool) (a c : Call) → cond b (Asks a) Stops ≡ Asks c → a ≡ c
ask-if true a c e = ask-is a c e
ask-if false a c e = cc

-- as many arguments are passed as there are terms
as-many : (terms : List Term) (names : Names) → length (listed (packed (values_of terms names))) ≡ length terms
as-many terms names =
    ap (λ (vs : List ℤ). length vs) (take-append_seam (values_of terms names) (replicate (8 - length (values_of terms names)) (pos 0)))
    ∙ length-map terms (λ (term : Term). value_of term names)

asks-tag_at : (d : Decls) (proc : ℕ) (names : Names) (callers : List Frame) (left : Block) (c : Call) → SendsAreGiven d left → next_at d.procs proc names callers left ≡ Asks c → HasTag d c
asks-tag_at d proc names callers (Sends note label tag to args rest) c h e = subst (HasTag d) (ask-if _ _ c e) (h.0.0, as-many args names ∙ h.0.1)
asks-tag_at d proc names callers (Awaits note label tag sender args rest) c h e = subst (HasTag d) (ask-is _ c e) tt
asks-tag_at d proc names callers (Polls note got label tag sender args rest) c h e = subst (HasTag d) (ask-is _ c e) tt
asks-tag_at d proc names callers (Reads note into label field index rest) c h e = subst (HasTag d) (ask-if _ _ c e) tt
asks-tag_at d proc names callers Done c h e = absurd (tick-no-ask _ _ c e)
asks-tag_at d proc names callers (Sets target value rest) c h e = absurd (tick-no-ask _ _ c e)
asks-tag_at d proc names callers (Ifs test left right rest) c h e = cc
asks-tag_at d proc names callers (Whiles test note body rest) c h e = cc
asks-tag_at d proc names callers (Calls note frame into callee args rest) c h e = absurd (tick-no-ask _ _ c e)

pub asks-tag : (d : Decls) (m : Machine) (c : Call) → MachineIsGiven d m → next d.procs m ≡ Asks c → HasTag d c
asks-tag d (Over v) c h e = cc
asks-tag d (Working frame callers) c h e = asks-tag_at d frame.proc frame.names callers frame.left c h.0 e
