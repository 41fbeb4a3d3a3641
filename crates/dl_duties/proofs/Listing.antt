-- What the positions and the labels in a file name, and one step of another node.
use Rattle.std.proofs.Common.{◌≡◌, ℕ, Bool, true, ◌-◌, ◌<◌, ◌≤◌, zero, suc, List, [], ◌∷◌, length, get_or, refl, sym, ◌∙◌, ap, arith}
use Rattle.std.proofs.lemmas.Option.{slice_get_read}
use Rattle.std.specs.Prelude.{slice_get, unwrap_or, Option, Some, None, Result, Ok, Err, OnOk, IfOk}
use Rattle.dl_term.specs.declared.syntax.Formula.{Formula}
use Rattle.dl_term.specs.declared.syntax.Lab.{Lab}
use Rattle.dl_term.specs.declared.syntax.Lab.TheVariants.{At}
use Rattle.dl_term.specs.Same.{same_label}
use Rattle.dl_model.specs.declared.protocol.Update.{Update}
use Rattle.dl_model.specs.declared.protocol.Protocol.{Protocol}
use Rattle.dl_model.specs.declared.protocol.Instances.{Instances}
use Rattle.dl_model.specs.declared.program.Proc.{Proc}
use Rattle.dl_model.specs.declared.file.Decls.{Decls}
use Rattle.dl_model.specs.Block.{block_of}
use Rattle.dl_model.specs.Lookup.{no_protocol, no_proc, protocol_in, proc_at}
use Rattle.dl_model.specs.Scopes.{protocol_found}
use Rattle.dl_model.specs.Formed.{points, all_points}
use Rattle.dl_sequent.specs.declared.duty.Duty.{Duty}
use Rattle.dl_inv.specs.Touched.{fields_of}
use Rattle.dl_inv.specs.Duties.{if_touched}
use Rattle.dl_triples.specs.Duties.{steps_of_others}
use Rattle.dl_duties.specs.Moves.{steps_at}

-- ---- what a position names

pub proc-here : (decls : Decls) (procs : List Proc) (i : ℕ) (proc : Proc) → procs ≡ decls.procs → i < length procs →
    proc ≡ get_or procs i proc → proc_at decls.procs i ≡ proc
proc-here decls procs i proc same h e =
    ap (λ list. unwrap_or (slice_get list i) no_proc) (sym same) ∙ ap (λ o. unwrap_or o no_proc) (slice_get_read procs (length procs) i proc refl h e)

-- a procedure has no more points than all of them
pub points-here : (procs : List Proc) (i : ℕ) (proc : Proc) → slice_get procs i ≡ Some proc → points (block_of proc.body) ≤ all_points procs
points-here [] i proc h = absurd (cc h)
points-here (first ∷ procs) zero proc h =
    let same : first ≡ proc = cc h in
    let e : points (block_of first.body) ≡ points (block_of proc.body) = ap (λ (p : Proc). points (block_of p.body)) same in
    omega arith
points-here (first ∷ procs) (suc i) proc h =
    let below : points (block_of proc.body) ≤ all_points procs = points-here procs i proc h in
    omega arith

pub proc-few : (decls : Decls) (procs : List Proc) (i : ℕ) (proc : Proc) → procs ≡ decls.procs → i < length procs → proc ≡ get_or procs i proc → all_points decls.procs ≤ 1048576 →
    points (block_of proc.body) ≤ 1048576
proc-few decls procs i proc same h e few =
    let at : slice_get decls.procs i ≡ Some proc = ap (λ list. slice_get list i) (sym same) ∙ slice_get_read procs (length procs) i proc refl h e in
    let within : points (block_of proc.body) ≤ all_points decls.procs = points-here decls.procs i proc at in
    omega (within, few, arith)

pub label-is : (inst : Instances) (o : Option ℕ) (protocol : Protocol) → protocol_found inst o ≡ Some protocol → protocol_in inst o ≡ protocol
label-is inst (Some p) protocol h = ap (λ found. unwrap_or found no_protocol) h
label-is inst None protocol h = cc

pub label-steps : (decls : Decls) (duty : ℕ → ℕ → Bool → Duty) (f : Formula) (label : ℕ) (protocol : Protocol) →
    protocol_found decls.inst (slice_get decls.inst.of label) ≡ Some protocol → steps_at decls duty f label ≡ steps_of_others (duty label) (At label) f protocol
label-steps decls duty f label protocol h = ap (λ (q : Protocol). steps_of_others (duty label) (At label) f q) (label-is decls.inst (slice_get decls.inst.of label) protocol h)

-- ---- one step

abbrev pub moved : Bool → Lab → ℕ → List Update → Formula → Duty → List Duty
moved grows label tag updates f duty =
    if_touched (record { here = λ l. same_label l label; tag = tag; fields = fields_of updates; grows = grows; spares_me = true }) f duty

pub moved-same : (grows : Bool) (label : Lab) (tag : ℕ) (updates updates' : List Update) (f : Formula) (duty duty' : Duty) →
    updates ≡ updates' → duty ≡ duty' → moved grows label tag updates f duty ≡ moved grows label tag updates' f duty'
moved-same grows label tag updates updates' f duty duty' b d =
    ap (λ (us : List Update). moved grows label tag us f duty) b ∙ ap (λ (e : Duty). moved grows label tag updates' f e) d

-- ---- a result that gives a number

pub where-given : {A E : Type 0} (done : Result A E) (P Q : Type 0) → OnOk done P → (P → Q) → OnOk done Q
where-given (Ok a) P Q h k = k h
where-given (Err e) P Q h k = h

pub where-number : {E : Type 0} (done : Result ℕ E) (a b : ℕ) → a ≡ b → IfOk done (λ n. n ≡ a) → IfOk done (λ n. n ≡ b)
where-number (Ok n) a b e h = h ∙ e
where-number (Err x) a b e h = h
