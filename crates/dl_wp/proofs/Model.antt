-- What the terms of a step stand for, and what the model's step does, for the protocol of the step's label.
use Rattle.std.proofs.Common.{◌≡◌, ◌<◌, ◌≤◌, ◌+◌, ℕ, zero, suc, ℤ, pos, Bool, true, false, not, ◌==◌, if◌then◌else◌, List, [], ◌∷◌, length, map, Option, Some, None, is_some, slice_get, unwrap_or, refl, ◌∙◌, sym, ap, subst, eq-eqb, eqb-true, arith}
use Rattle.std.specs.List.{AllByRecursion as Each, AllZip, list_all}
use Rattle.dl_term.specs.declared.syntax.Lab.{Lab}
use Rattle.dl_term.specs.declared.syntax.Lab.TheVariants.{Own, At}
use Rattle.dl_term.specs.declared.syntax.Term.{Term, Num}
use Rattle.dl_term.specs.State.{State, Statelet, statelet, cell, field_at}
use Rattle.dl_term.specs.Names.{Names, with_number, label_of}
use Rattle.dl_term.specs.Meaning.{value}
use Rattle.dl_term.specs.Same.{same_label}
use Rattle.dl_term.proofs.Choices.{value-if}
use Rattle.dl_term.proofs.SameLemmas.{label-is}
use Rattle.dl_model.specs.declared.protocol.FieldDecl.{FieldDecl}
use Rattle.dl_model.specs.declared.protocol.Update.{Update}
use Rattle.dl_model.specs.declared.protocol.Transition.{Transition}
use Rattle.dl_model.specs.declared.protocol.Tag.{Tag}
use Rattle.dl_model.specs.declared.protocol.Protocol.{Protocol}
use Rattle.dl_model.specs.declared.protocol.Instances.{Instances}
use Rattle.dl_model.specs.Lookup.{no_protocol, protocol_in, protocol_at, no_tag, tag_at, never, receive_of}
use Rattle.dl_model.specs.Scopes.{is_field_with, is_field, protocol_found, file_label}
use Rattle.dl_model.specs.Steps.{change, updated, update_fits, with_statelet}
use Rattle.dl_model.specs.States.{IsWellSorted, StateletIsSorted}
use Rattle.dl_model.specs.Formed.{AreDistinct, TransitionIsFormed, ReceiveIsFormed, TagIsFormed, ProtocolIsFormed, InstancesAreFormed, UpdateIsFormed as UpdateIsDeclared}
use Rattle.dl_model.specs.Words.{me_word, me_names, with_numbers}
use Rattle.dl_model.proofs.Small.{each-map, some-same}
use Rattle.dl_wp.specs.Steps.{Step, argument_of, names_in_step, spoken_of, tag_in}
use Rattle.dl_wp.specs.Before.{update_of}
use Rattle.dl_wp.specs.Conditions.{IsOwn}
use Rattle.dl_wp.proofs.Cells.{change-other, changed-get, UpdateIsFormed, put_by, updated-cell}
use Rattle.dl_wp.proofs.Values.{Written}

-- ---- the protocol of a label

pub record Spoken (inst : Instances) (label : ℕ) (protocol : Protocol) : Type 0 where
  pub at : protocol_at inst label ≡ protocol
  pub number : ℕ
  pub of : slice_get inst.of label ≡ Some number
  pub listed : slice_get inst.protocols number ≡ Some protocol
  pub there : label < length inst.of

get-within : (xs : List ℕ) (n x : ℕ) → slice_get xs n ≡ Some x → n < length xs
get-within [] n x e = cc
get-within (y ∷ ys) zero x e = omega arith
get-within (y ∷ ys) (suc n) x e = let rest = get-within ys n x e in omega (rest, arith)

found-of : (inst : Instances) (o : Option ℕ) (label : ℕ) (protocol : Protocol) → slice_get inst.of label ≡ o → protocol_found inst o ≡ Some protocol → Spoken inst label protocol
found-of inst None label protocol e f = cc
found-of inst (Some p) label protocol e f = record {
  at = ap (protocol_in inst) e ∙ ap (λ o. unwrap_or o no_protocol) f;
  number = p;
  of = e;
  listed = f;
  there = get-within inst.of label p e;
}

pub spoken-is : (inst : Instances) (own : Option ℕ) (names : Names) (l : Lab) (protocol : Protocol) → IsOwn inst own names → spoken_of inst own l ≡ Some protocol → Spoken inst (label_of names.own l) protocol
spoken-is inst None names Own protocol h e = cc
spoken-is inst None names (At n) protocol h e = found-of inst (slice_get inst.of n) n protocol refl e
spoken-is inst (Some p) names Own protocol h e = found-of inst (Some p) names.own protocol h e
spoken-is inst (Some p) names (At n) protocol h e = cc

pub spoken-some : (o : Option Protocol) → is_some o ≡ true → (protocol : Protocol) × (o ≡ Some protocol)
spoken-some (Some protocol) h = (protocol, refl)
spoken-some None h = cc

-- labels are all written in one way
label-written : (inst : Instances) (own : Option ℕ) (l k : Lab) (n : ℕ) → is_some (spoken_of inst own l) ≡ true → is_some (spoken_of inst own k) ≡ true → same_label l k ≡ (label_of n l == label_of n k)
label-written inst None Own k n h g = cc
label-written inst None (At x) Own n h g = cc
label-written inst None (At x) (At y) n h g = refl
label-written inst (Some p) Own Own n h g = sym (eq-eqb n n refl)
label-written inst (Some p) Own (At y) n h g = cc
label-written inst (Some p) (At x) k n h g = cc

-- ---- what formed protocols say of updates

pub decl-of : (o : Option FieldDecl) (row : Bool) → is_field_with o row ≡ true → (d : FieldDecl) × (o ≡ Some d) × (d.row ≡ row)
decl-of None row h = cc
decl-of (Some d) true h = (d, refl, h)
decl-of (Some d) false h = (d, refl, not-false d.row h)
  where
    not-false : (b : Bool) → not b ≡ true → b ≡ false
    not-false true e = cc
    not-false false e = refl

pub record UpdatesFit (protocol : Protocol) (updates : List Update) : Type 0 where
  pub distinct : AreDistinct (map (λ (u : Update). u.field) updates)
  pub formed : Each (UpdateIsFormed protocol.fields) updates

fit-transition : (protocol : Protocol) (variables : List ℕ) (transition : Transition) → TransitionIsFormed protocol variables transition → UpdatesFit protocol transition.updates
fit-transition protocol variables transition h = record {
  distinct = h.once;
  formed = each-map (UpdateIsDeclared protocol variables) (UpdateIsFormed protocol.fields) transition.updates h.updates (λ u g.
      let d = decl-of (slice_get protocol.fields u.field) (is_some u.index) g.field in record { decl = d.0; there = d.1; row = d.2 });
}

fit-receive : (protocol : Protocol) (variables : List ℕ) (o : Option Transition) → ReceiveIsFormed protocol variables o → UpdatesFit protocol (unwrap_or o never).updates
fit-receive protocol variables (Some transition) h = fit-transition protocol variables transition h
fit-receive protocol variables None h = record { distinct = tt; formed = tt }

pub record TagFits (protocol : Protocol) (tag : Tag) : Type 0 where
  pub send : UpdatesFit protocol tag.send.updates
  pub receive : UpdatesFit protocol (receive_of tag).updates
  pub few : length tag.args ≤ 8

pub length-map : {X Y : Type 0} (f : X → Y) (xs : List X) → length (map f xs) ≡ length xs
length-map f [] = refl
length-map f (x ∷ xs) = ap suc (length-map f xs)

fit-tag : (protocol : Protocol) (tag : Tag) → TagIsFormed protocol tag → TagFits protocol tag
fit-tag protocol tag h = record {
  send = fit-transition protocol _ tag.send h.send;
  receive = fit-receive protocol _ tag.receive h.receive;
  few = h.args.0;
}

fit-no_tag : (protocol : Protocol) → TagFits protocol no_tag
fit-no_tag protocol = record {
  send = record { distinct = tt; formed = tt };
  receive = record { distinct = tt; formed = tt };
  few = omega arith;
}

fit-tags : (protocol : Protocol) (tags : List Tag) (n : ℕ) → Each (TagIsFormed protocol) tags → TagFits protocol (unwrap_or (slice_get tags n) no_tag)
fit-tags protocol [] n h = fit-no_tag protocol
fit-tags protocol (tag ∷ tags) zero h = fit-tag protocol tag h.0
fit-tags protocol (tag ∷ tags) (suc n) h = fit-tags protocol tags n h.1

pub tag-fits : (inst : Instances) (label : ℕ) (protocol : Protocol) (tag : ℕ) → InstancesAreFormed inst → Spoken inst label protocol → TagFits protocol (tag_in (Some protocol) tag)
tag-fits inst label protocol tag formed s = fit-tags protocol protocol.tags tag (formed.protocols s.number protocol s.listed).tags

-- ---- what the step's names are

-- the terms have the values of the arguments that have a name
abbrev pub Covers : Names → State → List ℕ → List Term → List ℤ → Type 0
Covers base state [] terms values = Unit {0}
Covers base state (y ∷ ys) [] [] = Unit {0}
Covers base state (y ∷ ys) (t ∷ ts) (v ∷ vs) = (value t base state ≡ v) × Covers base state ys ts vs
Covers base state (y ∷ ys) [] (v ∷ vs) = ⊥
Covers base state (y ∷ ys) (t ∷ ts) [] = ⊥

module _ (base : Names) (state : State) where
  pub zip-covers : (syms : List ℕ) (terms : List Term) (values : List ℤ) → AllZip (λ t v. value t base state ≡ v) terms values → Covers base state syms terms values
  zip-covers [] terms values h = tt
  zip-covers (y ∷ ys) [] [] h = tt
  zip-covers (y ∷ ys) [] (v ∷ vs) h = absurd h
  zip-covers (y ∷ ys) (t ∷ ts) [] h = absurd h
  zip-covers (y ∷ ys) (t ∷ ts) (v ∷ vs) h = (h.0, zip-covers ys ts vs h.1)

  argument-value : (syms : List ℕ) (terms : List Term) (values : List ℤ) (found : Term) (inner : Names) (x : ℕ) → Covers base state syms terms values → value found base state ≡ inner.number x
      → value (argument_of found syms terms x) base state ≡ (with_numbers inner syms values).number x
  argument-value [] terms values found inner x h e = e
  argument-value (y ∷ ys) [] [] found inner x h e = e
  argument-value (y ∷ ys) [] (v ∷ vs) found inner x h e = absurd h
  argument-value (y ∷ ys) (t ∷ ts) [] found inner x h e = absurd h
  argument-value (y ∷ ys) (t ∷ ts) (v ∷ vs) found inner x h e =
      argument-value ys ts vs (if x == y then t else found) (with_number inner y v) x h.1
      (value-if (x == y) t found base state ∙ (λ i. if x == y then h.0 i else e i))

  pub named-value : (node other : Term) (word : ℕ) (n k : ℤ) (label : ℕ) (syms : List ℕ) (terms : List Term) (values : List ℤ) (x : ℕ) → value node base state ≡ n → value other base state ≡ k → Covers base state syms terms values
      → value (names_in_step node word other syms terms x) base state ≡ (with_numbers (with_number (me_names label n) word k) syms values).number x
  named-value node other word n k label syms terms values x p q h =
      argument-value syms terms values (if x == word then other else if x == me_word then node else Num (pos 0)) (with_number (me_names label n) word k) x h
      (value-if (x == word) other (if x == me_word then node else Num (pos 0)) base state
      ∙ (λ i. if x == word then q i else value-if (x == me_word) node (Num (pos 0)) base state i)
      ∙ (λ i. if x == word then k else (if x == me_word then p i else pos 0)))

with-own : (inner : Names) (syms : List ℕ) (values : List ℤ) → (with_numbers inner syms values).own ≡ inner.own
with-own inner [] values = refl
with-own inner (y ∷ ys) [] = refl
with-own inner (y ∷ ys) (v ∷ vs) = with-own (with_number inner y v) ys vs

with-messages : (inner : Names) (syms : List ℕ) (values : List ℤ) (m : ℕ) → (with_numbers inner syms values).message m ≡ inner.message m
with-messages inner [] values m = refl
with-messages inner (y ∷ ys) [] m = refl
with-messages inner (y ∷ ys) (v ∷ vs) m = with-messages (with_number inner y v) ys vs m

pub named-own : (label : ℕ) (n : ℤ) (word : ℕ) (k : ℤ) (syms : List ℕ) (values : List ℤ) → (with_numbers (with_number (me_names label n) word k) syms values).own ≡ label
named-own label n word k syms values = with-own (with_number (me_names label n) word k) syms values

pub named-none : (label : ℕ) (n : ℤ) (word : ℕ) (k : ℤ) (syms : List ℕ) (values : List ℤ) (m : ℕ) → (with_numbers (with_number (me_names label n) word k) syms values).message m ≡ None
named-none label n word k syms values m = with-messages (with_number (me_names label n) word k) syms values m

-- ---- the statelet that a step writes

pub statelet-there : (state : State) (label : ℕ) (new : Statelet) → label < length state.labels → statelet (with_statelet state label new) label ≡ new
statelet-there state label new lt = changed-get (λ old. new) state.labels label (record { fields = []; soup = [] }) lt

pub statelet-away : (state : State) (label : ℕ) (new : Statelet) (l : ℕ) → (l == label) ≡ false → statelet (with_statelet state label new) l ≡ statelet state l
statelet-away state label new l away =
    ap (λ o. unwrap_or o (record { fields = []; soup = [] })) (change-other (λ old. new) state.labels label l (λ e. clash e))
  where
    clash : l ≡ label → ⊥
    clash e = let one : (l == label) ≡ true = eq-eqb l label e in cc

-- ---- how the step is written

module _ (inst : Instances) (own : Option ℕ) (names : Names) (step : Step) (protocol : Protocol) (is : spoken_of inst own step.label ≡ Some protocol) (fit : UpdatesFit protocol step.updates) where
  at-first : (b : Bool) (w : Update) (ws : List Update) (field : ℕ) (u : Update) → Each (UpdateIsFormed protocol.fields) (w ∷ ws) → (w.field == field) ≡ b → (if b then Some w else update_of ws field) ≡ Some u
      → (update_of ws field ≡ Some u → (d : FieldDecl) × (slice_get protocol.fields field ≡ Some d) × (d.row ≡ is_some u.index)) → (d : FieldDecl) × (slice_get protocol.fields field ≡ Some d) × (d.row ≡ is_some u.index)
  at-first true w ws field u h p q rest =
      let same = some-same w u q in
      (h.0.decl, ap (slice_get protocol.fields) (sym (eqb-true w.field field p)) ∙ h.0.there, h.0.row ∙ ap (λ (k : Update). is_some k.index) same)
  at-first false w ws field u h p q rest = rest q

  update-has : (us : List Update) (field : ℕ) (u : Update) → Each (UpdateIsFormed protocol.fields) us → update_of us field ≡ Some u → (d : FieldDecl) × (slice_get protocol.fields field ≡ Some d) × (d.row ≡ is_some u.index)
  update-has [] field u h e = cc
  update-has (w ∷ ws) field u h e = at-first (w.field == field) w ws field u h refl e (λ q. update-has ws field u h.1 q)

  no-index : (o : Option Term) → is_some o ≡ false → o ≡ None
  no-index None e = refl
  no-index (Some t) e = cc

  plain-row : (o : Option FieldDecl) (d : FieldDecl) → o ≡ Some d → is_field_with o false ≡ true → d.row ≡ false
  plain-row o d e h = plain d.row (sym (ap (λ k. is_field_with k false) e) ∙ h)
    where
      plain : (b : Bool) → not b ≡ true → b ≡ false
      plain true e = cc
      plain false e = refl

  pub is-written : Written step (spoken_of inst own) names.own
  is-written = record {
    labels = λ l there. label-written inst own l step.label names.own there (ap is_some is);
    plain = λ l field u same has fits.
        let d = update-has step.updates field u fit.formed has in
        let here = ap (spoken_of inst own) (label-is l step.label same) ∙ is in
        no-index u.index (sym d.2 ∙ plain-row (slice_get protocol.fields field) d.0 d.1 (sym (ap (λ o. is_field o field false) here) ∙ fits));
  }

-- ---- the fields that the step writes

pub field-written : (inst : Instances) (state : State) (label node : ℕ) (inner : Names) (updates : List Update) (protocol : Protocol) (new : Statelet) → IsWellSorted inst state → Spoken inst label protocol → node < inst.nodes
    → UpdatesFit protocol updates → list_all (update_fits inst label inner state) updates ≡ true → new.fields ≡ updated inst label inner state node updates (statelet state label).fields
    → (field : ℕ) (v i : ℤ) → field_at (with_statelet state label new) label field v i ≡ put_by node inner state (update_of updates field) v i (field_at state label field v i)
field-written inst state label node inner updates protocol new sorted spoken known fit fits is field v i =
    ap (λ (s : Statelet). cell s.fields field v i) (statelet-there state label new (subst (λ n. label < n) (sym sorted.labels) spoken.there))
    ∙ ap (λ fields. cell fields field v i) is
    ∙ updated-cell inst label inner state node sorted.nodes known updates (statelet state label).fields field v i fit.distinct fits (sorted.each label).fields
    (subst (λ (p : Protocol). Each (UpdateIsFormed p.fields) updates) (sym spoken.at) fit.formed)
