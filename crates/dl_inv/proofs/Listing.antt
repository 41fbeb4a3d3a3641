-- Lists that a loop makes, part by part.
use Rattle.std.proofs.Common.{◌≡◌, ℕ, Bool, false, ◌+◌, ◌-◌, ◌<◌, ◌≤◌, suc, List, ◌∷◌, ◌++◌, length, get_or, drop, refl, sym, ◌∙◌, ap, add-one, append_assoc, arith}
use Rattle.std.proofs.lemmas.List.{append-nil}
use Rattle.std.proofs.Math.Seq.{drop-cons}
use Rattle.std.proofs.lemmas.Option.{slice_get_read}
use Rattle.std.specs.Prelude.{slice_get, unwrap_or, Option, Some, None, Result, Ok, Err, OnOk}
use Rattle.std.specs.List.{flat_map, range_with_len}
use Rattle.dl_model.specs.declared.file.Invariant.{Invariant}
use Rattle.dl_model.specs.declared.file.Decls.{Decls}
use Rattle.dl_model.specs.declared.protocol.Protocol.{Protocol}
use Rattle.dl_model.specs.declared.protocol.Instances.{Instances}
use Rattle.dl_model.specs.declared.protocol.Tag.{Tag}
use Rattle.dl_model.specs.Lookup.{no_tag, no_protocol, protocol_in}
use Rattle.dl_model.specs.Scopes.{protocol_found}
use Rattle.dl_model.specs.Formed.{InstancesAreFormed}
use Rattle.dl_term.specs.declared.syntax.Formula.{Formula, True}
use Rattle.dl_term.specs.declared.syntax.Lab.{Lab}
use Rattle.dl_term.specs.declared.syntax.Lab.TheVariants.{Own, At}
use Rattle.dl_term.specs.Same.{same_label}
use Rattle.dl_model.specs.declared.protocol.Update.{Update}
use Rattle.dl_inv.specs.Touched.{fields_of}
use Rattle.dl_sequent.specs.declared.duty.Duty.{Duty}
use Rattle.dl_sequent.specs.declared.duty.Duty.TheVariants.{InitProtocol, StepProtocol, StepInvariant}
use Rattle.dl_inv.specs.Duties.{if_touched, duties_of_protocol, steps_of_tags, steps_at_label}
use Rattle.dl_inv.specs.Obligations.{invariant_at}

-- one number more of those that are left
pub next-number : {X : Type 0} (g : ℕ → List X) (i n : ℕ) (now later all : List X) → i < n →
    now ++ flat_map g (range_with_len i (n - i)) ≡ all → later ≡ now ++ g i → later ++ flat_map g (range_with_len (i + 1) (n - (i + 1))) ≡ all
next-number g i n now later all h before is =
    let e : n - i ≡ suc (n - (i + 1)) = omega arith in
    ap (λ xs. xs ++ flat_map g (range_with_len (i + 1) (n - (i + 1)))) is
    ∙ (append_assoc now (g i) (flat_map g (range_with_len (i + 1) (n - (i + 1))))
    ∙ (ap (λ m. now ++ flat_map g (range_with_len i m)) (sym e) ∙ before))

pub no-number : {X : Type 0} (g : ℕ → List X) (i n : ℕ) (now all : List X) → n ≤ i → now ++ flat_map g (range_with_len i (n - i)) ≡ all → now ≡ all
no-number g i n now all h before =
    let e : n - i ≡ 0 = omega arith in
    sym (append-nil now) ∙ (ap (λ m. now ++ flat_map g (range_with_len i m)) (sym e) ∙ before)

-- one label more of those that are left
pub next-label : {X : Type 0} (g : ℕ → List X) (labels : List ℕ) (i : ℕ) (now later all : List X) → i < length labels →
    now ++ flat_map g (drop i labels) ≡ all → later ≡ now ++ g (get_or labels i 0) → later ++ flat_map g (drop (i + 1) labels) ≡ all
next-label g labels i now later all h before is =
    let here : drop i labels ≡ get_or labels i 0 ∷ drop (i + 1) labels = rw (add-one, drop-cons labels i 0) in
    ap (λ xs. xs ++ flat_map g (drop (i + 1) labels)) is
    ∙ (append_assoc now (g (get_or labels i 0)) (flat_map g (drop (i + 1) labels)) ∙ (ap (λ xs. now ++ flat_map g xs) (sym here) ∙ before))

pub invariant-here : (decls : Decls) (invariants : List Invariant) (i : ℕ) (invariant : Invariant) → invariants ≡ decls.invariants → i < length invariants →
    invariant ≡ get_or invariants i invariant → invariant_at decls i ≡ invariant
invariant-here decls invariants i invariant same h e =
    ap (λ list. unwrap_or (slice_get list i) (record { sym = 0; world = 0; formula = True })) (sym same)
    ∙ ap (λ o. unwrap_or o (record { sym = 0; world = 0; formula = True })) (slice_get_read invariants (length invariants) i invariant refl h e)

pub tag-here : (protocol : Protocol) (tags : List Tag) (i : ℕ) (tag : Tag) → tags ≡ protocol.tags → i < length tags →
    tag ≡ get_or tags i tag → unwrap_or (slice_get protocol.tags i) no_tag ≡ tag
tag-here protocol tags i tag same h e =
    ap (λ list. unwrap_or (slice_get list i) no_tag) (sym same) ∙ ap (λ o. unwrap_or o no_tag) (slice_get_read tags (length tags) i tag refl h e)

-- ---- one list after another

pub joined : {X : Type 0} (now first second middle later : List X) → middle ≡ now ++ first → later ≡ middle ++ second → later ≡ now ++ (first ++ second)
joined now first second middle later e f = f ∙ (ap (λ xs. xs ++ second) e ∙ append_assoc now first second)

pub where-done : {E : Type 0} (done : Result (Unit {0}) E) (P Q : Type 0) → OnOk done P → (P → Q) → OnOk done Q
where-done (Ok u) P Q h k = k h
where-done (Err e) P Q h k = h

-- ---- what a position names

pub found-few : (inst : Instances) (p : ℕ) (protocol : Protocol) → InstancesAreFormed inst → slice_get inst.protocols p ≡ Some protocol → length protocol.tags ≤ 16
found-few inst p protocol formed h = (formed.protocols p protocol h).few_tags

pub label-few : (inst : Instances) (o : Option ℕ) (protocol : Protocol) → InstancesAreFormed inst → protocol_found inst o ≡ Some protocol → length protocol.tags ≤ 16
label-few inst (Some p) protocol formed h = found-few inst p protocol formed h
label-few inst None protocol formed h = cc

label-is : (inst : Instances) (o : Option ℕ) (protocol : Protocol) → protocol_found inst o ≡ Some protocol → protocol_in inst o ≡ protocol
label-is inst (Some p) protocol h = ap (λ found. unwrap_or found no_protocol) h
label-is inst None protocol h = cc

pub protocol-duties : (decls : Decls) (p : ℕ) (declared : Protocol) (f : Formula) → slice_get decls.inst.protocols p ≡ Some declared → declared.coherence ≡ Some f →
    duties_of_protocol decls p ≡ InitProtocol p ∷ steps_of_tags (StepProtocol p) Own f declared
protocol-duties decls p declared f h k =
    let is : protocol_in decls.inst (Some p) ≡ declared = ap (λ found. unwrap_or found no_protocol) h in
    let coherence : (protocol_in decls.inst (Some p)).coherence ≡ Some f = ap (λ (q : Protocol). q.coherence) is ∙ k in
    rw coherence (ap (λ (q : Protocol). InitProtocol p ∷ steps_of_tags (StepProtocol p) Own f q) is)

pub label-steps : (decls : Decls) (i label : ℕ) (invariant : Invariant) (protocol : Protocol) → invariant_at decls i ≡ invariant →
    protocol_found decls.inst (slice_get decls.inst.of label) ≡ Some protocol → steps_at_label decls i label ≡ steps_of_tags (StepInvariant i label) (At label) invariant.formula protocol
label-steps decls i label invariant protocol here h =
    ap (λ (q : Protocol). steps_of_tags (StepInvariant i label) (At label) (invariant_at decls i).formula q) (label-is decls.inst (slice_get decls.inst.of label) protocol h)
    ∙ ap (λ (v : Invariant). steps_of_tags (StepInvariant i label) (At label) v.formula protocol) here

-- ---- one step

abbrev pub moved : Bool → Lab → ℕ → List Update → Formula → Duty → List Duty
moved grows label tag updates f duty =
    if_touched (record { here = λ l. same_label l label; tag = tag; fields = fields_of updates; grows = grows; spares_me = false }) f duty

pub moved-same : (grows : Bool) (label label' : Lab) (tag : ℕ) (updates updates' : List Update) (f : Formula) (duty duty' : Duty) →
    label ≡ label' → updates ≡ updates' → duty ≡ duty' → moved grows label tag updates f duty ≡ moved grows label' tag updates' f duty'
moved-same grows label label' tag updates updates' f duty duty' a b d =
    ap (λ (l : Lab). moved grows l tag updates f duty) a ∙ (ap (λ (us : List Update). moved grows label' tag us f duty) b ∙ ap (λ (e : Duty). moved grows label' tag updates' f e) d)
