-- Where the obligations of protocols and invariants are valid, they say of the model what they mean.
use Rattle.std.proofs.Common.{◌≡◌, ℕ, ◌<◌, ℤ, pos, Bool, true, false, ◌==◌, Option, Some, None, List, [], ◌∷◌, length, slice_get, unwrap_or, refl, ◌∙◌, ap, sym, subst, eq-eqb, arith}
use Rattle.std.proofs.lemmas.Bool.{false≢true}
use Rattle.std.specs.Prelude.{is_some, nat_le}
use Rattle.std.specs.List.{AllByRecursion as Each, flat_map}
use Rattle.dl_term.specs.declared.syntax.Lab.{Lab}
use Rattle.dl_term.specs.declared.syntax.Lab.TheVariants.{Own, At}
use Rattle.dl_term.specs.declared.syntax.Formula.{Formula, True, False, Eq, Lt, Le, Not', And', Or', Implies', All', Exists', Each', Any', more_of-Formula as one_formula, end_of-Formula as end_formula}
use Rattle.dl_term.specs.State.{State}
use Rattle.dl_term.specs.Names.{Names, no_names, label_of}
use Rattle.dl_term.specs.Meaning.{holds}
use Rattle.dl_term.specs.Same.{same_label}
use Rattle.dl_model.specs.declared.protocol.Transition.{Transition}
use Rattle.dl_model.specs.declared.protocol.Tag.{Tag}
use Rattle.dl_model.specs.declared.protocol.Protocol.{Protocol}
use Rattle.dl_model.specs.declared.protocol.Instances.{Instances}
use Rattle.dl_model.specs.declared.file.World.{World}
use Rattle.dl_model.specs.declared.file.Invariant.{Invariant}
use Rattle.dl_model.specs.declared.file.Decls.{Decls}
use Rattle.dl_model.specs.Sorts.{has}
use Rattle.dl_model.specs.Lookup.{no_protocol, protocol_in, protocol_at, no_tag, tag_at, receive_of, never}
use Rattle.dl_model.specs.Words.{me_word, first_name}
use Rattle.dl_model.specs.States.{IsWellSorted, first_state}
use Rattle.dl_model.specs.Steps.{Step, Sending, Receiving, IsEnabled, IsReceivable, CanStep, Meets, after_step, message_in, receive_at, names_of_send, names_of_receive, label_of_step}
use Rattle.dl_model.specs.Scopes.{Scope, own_label, file_label, protocol_found, with_variable, with_message, is_fresh, FormulaIsKnown}
use Rattle.dl_model.specs.Spoken.{bound_names, labels_of}
use Rattle.dl_model.specs.Safe.{coherence_holds, coherent}
use Rattle.dl_model.specs.Formed.{CoherenceIsFormed, IsFormed}
use Rattle.dl_model.proofs.Small.{and-left, or-both, each-map, each-front, each-back, eqb-other}
use Rattle.dl_model.proofs.Sorted.{first-sorted}
use Rattle.dl_sequent.specs.declared.duty.Duty.TheVariants.{InitProtocol, InitInvariant, StepProtocol, StepInvariant}
use Rattle.dl_wp.specs.Steps.{spoken_of}
use Rattle.dl_wp.specs.Conditions.{IsAbout}
use Rattle.dl_wp.proofs.FirstLaw.{first-holds}
use Rattle.dl_inv.specs.Touched.{fields_of, is_touched, formula_touched, none_live}
use Rattle.dl_inv.specs.Steps.{called, tag_of}
use Rattle.dl_inv.specs.Obligations.{self_fact, coherence_of, invariant_at, invariant_world, facts_with, hooks_fact}
use Rattle.dl_inv.specs.Facts.{facts_of}
use Rattle.dl_inv.specs.Taken.{IsMet}
use Rattle.dl_inv.specs.Duties.{send_touch, receive_touch, if_touched, receive_of_tag, steps_of_tag, positions, steps_of_tags, duties_with, duties_of_protocol, steps_at_label, duties_of_invariant, duties_of}
use Rattle.dl_inv.proofs.Lists.{each-append, lacks-all}
use Rattle.dl_inv.proofs.Clear.{send-names-over}
use Rattle.dl_sound.specs.Obligations.{FactsBefore, ProtocolObligations, InvariantObligations, StateObligations}
use Rattle.dl_sound.specs.Touched.{touch_at}
use Rattle.dl_sound.proofs.Effects.{untouched-kept}
use Rattle.dl_sound.proofs.Bridge.{labels-there}
use Rattle.dl_sound.proofs.InStep.{scope_of}
use Rattle.dl_sound.proofs.Scoped.{no-variable, no-message, closed-same, closed-fits, formula-told}
use Rattle.dl_sound.proofs.Members.{get-within, has-position, flat-at, if-there}
use Rattle.dl_sound.proofs.StepNames.{numbered, receiving}
use Rattle.dl_sound.proofs.SendKept.{read, hooks-lack, send-kept}
use Rattle.dl_sound.proofs.ReceiveKept.{receive-kept}
use Rattle.dl_sound.proofs.WorldFacts.{facts-say, hooks-say}

-- ---- a quantifier binds no word

fresh-word : (scope : Scope) (x : ℕ) → is_fresh scope x ≡ true → (me_word == x) ≡ false
fresh-word scope x h = eqb-other me_word x (λ e. false≢true (ap (λ n. nat_le first_name n) e ∙ and-left (nat_le first_name x) _ h))

binds-no-word : (f : Formula) (scope : Scope) → FormulaIsKnown scope f → has (bound_names f) me_word ≡ false
binds-no-word True scope h = refl
binds-no-word False scope h = refl
binds-no-word (Eq a b) scope h = refl
binds-no-word (Lt a b) scope h = refl
binds-no-word (Le a b) scope h = refl
binds-no-word (Not' _ (one_formula f end_formula)) scope h = binds-no-word f scope h
binds-no-word (And' _ (one_formula f end_formula) _ (one_formula g end_formula)) scope h = lacks-all (bound_names f) (bound_names g) me_word (binds-no-word f scope h.0) (binds-no-word g scope h.1)
binds-no-word (Or' _ (one_formula f end_formula) _ (one_formula g end_formula)) scope h = lacks-all (bound_names f) (bound_names g) me_word (binds-no-word f scope h.0) (binds-no-word g scope h.1)
binds-no-word (Implies' _ (one_formula f end_formula) _ (one_formula g end_formula)) scope h = lacks-all (bound_names f) (bound_names g) me_word (binds-no-word f scope h.0) (binds-no-word g scope h.1)
binds-no-word (All' x _ (one_formula f end_formula)) scope h = or-both (me_word == x) (has (bound_names f) me_word) (fresh-word scope x h.0) (binds-no-word f (with_variable scope x) h.1)
binds-no-word (Exists' x _ (one_formula f end_formula)) scope h = or-both (me_word == x) (has (bound_names f) me_word) (fresh-word scope x h.0) (binds-no-word f (with_variable scope x) h.1)
binds-no-word (Each' m label tag _ (one_formula f end_formula)) scope h = or-both (me_word == m) (has (bound_names f) me_word) (fresh-word scope m h.0) (binds-no-word f (with_message scope m) h.2)
binds-no-word (Any' m label tag _ (one_formula f end_formula)) scope h = or-both (me_word == m) (has (bound_names f) me_word) (fresh-word scope m h.0) (binds-no-word f (with_message scope m) h.2)

-- ---- the tag of a step is there

-- the protocol of a label, and a tag of it
record HasTag (inst : Instances) (label tag : ℕ) : Type 0 where
  number : ℕ
  protocol : Protocol
  of : slice_get inst.of label ≡ Some number
  there : slice_get inst.protocols number ≡ Some protocol
  within : tag < length protocol.tags

tag-there : (inst : Instances) (label tag : ℕ) → (tag_at inst label tag ≡ no_tag → ⊥) → HasTag inst label tag
tag-there inst label tag h = by_label (slice_get inst.of label) refl
  where
    by_tag : (p : ℕ) (protocol : Protocol) (o : Option Tag) → slice_get inst.of label ≡ Some p → slice_get inst.protocols p ≡ Some protocol → slice_get protocol.tags tag ≡ o → HasTag inst label tag
    by_tag p protocol (Some t) e f g = record { number = p; protocol = protocol; of = e; there = f; within = get-within protocol.tags tag t g }
    by_tag p protocol None e f g = absurd (h (ap (λ (q : Protocol). unwrap_or (slice_get q.tags tag) no_tag) (ap (protocol_in inst) e ∙ ap (λ o. unwrap_or o no_protocol) f) ∙ ap (λ o. unwrap_or o no_tag) g))

    by_protocol : (p : ℕ) (o : Option Protocol) → slice_get inst.of label ≡ Some p → slice_get inst.protocols p ≡ o → HasTag inst label tag
    by_protocol p (Some protocol) e f = by_tag p protocol (slice_get protocol.tags tag) e f refl
    by_protocol p None e f = absurd (h (ap (λ (q : Protocol). unwrap_or (slice_get q.tags tag) no_tag) (ap (protocol_in inst) e ∙ ap (λ o. unwrap_or o no_protocol) f)))

    by_label : (o : Option ℕ) → slice_get inst.of label ≡ o → HasTag inst label tag
    by_label (Some p) e = by_protocol p (slice_get inst.protocols p) e refl
    by_label None e = absurd (h (ap (λ (q : Protocol). unwrap_or (slice_get q.tags tag) no_tag) (ap (protocol_in inst) e)))

sent-there : (inst : Instances) (state : State) (node label tag : ℕ) (to : ℤ) (args : List ℤ) → IsEnabled inst state node label tag to args → HasTag inst label tag
sent-there inst state node label tag to args h = tag-there inst label tag (λ e. false≢true (sym (ap (λ (t : Tag). holds t.send.guard (names_of_send inst label tag node to args) state) e) ∙ h.guard))

received-there : (inst : Instances) (state : State) (node label id : ℕ) → IsReceivable inst state node label id → HasTag inst label (message_in state label id).tag
received-there inst state node label id h = tag-there inst label (message_in state label id).tag (λ e. false≢true (sym (ap (λ (t : Tag). holds (receive_of t).guard (names_of_receive inst label (message_in state label id) node) state) e) ∙ h.guard))

-- ---- what is not touched is kept

module _ (inst : Instances) (state : State) (node own : ℕ) (f : Formula) (word : has (bound_names f) me_word ≡ false) where
  send-untouched : (lab : Lab) (label tag : ℕ) (to : ℤ) (args : List ℤ) (t : Transition) → Each (λ l. same_label l lab ≡ (label_of own l == label)) (labels_of f) → t ≡ (tag_at inst label tag).send
      → is_touched (send_touch lab tag t) f ≡ false → holds f (no_names own) state ≡ holds f (no_names own) (after_step inst state node (Sending label tag to args))
  send-untouched lab label tag to args t told same h =
      untouched-kept inst state node own false (Sending label tag to args) f (no_names own)
      (ap (λ (u : Transition). formula_touched (touch_at own label tag (fields_of u.updates) true false) none_live f) (sym same)
      ∙ sym (formula-told (send_touch lab tag t) (λ l. label_of own l == label) f none_live none_live refl told) ∙ h) word
      (record { own_label = refl; me = λ e k. cc; known = λ m l id e. cc; live_only = λ m l id e k. cc })

  receive-untouched : (lab : Lab) (label id : ℕ) (t : Transition) → Each (λ l. same_label l lab ≡ (label_of own l == label)) (labels_of f) → t ≡ receive_at inst label (message_in state label id)
      → is_touched (receive_touch lab (message_in state label id).tag t) f ≡ false → holds f (no_names own) state ≡ holds f (no_names own) (after_step inst state node (Receiving label id))
  receive-untouched lab label id t told same h =
      untouched-kept inst state node own false (Receiving label id) f (no_names own)
      (ap (λ (u : Transition). formula_touched (touch_at own label (message_in state label id).tag (fields_of u.updates) false false) none_live f) (sym same)
      ∙ sym (formula-told (receive_touch lab (message_in state label id).tag t) (λ l. label_of own l == label) f none_live none_live refl told) ∙ h) word
      (record { own_label = refl; me = λ e k. cc; known = λ m l id e. cc; live_only = λ m l id e k. cc })

-- labels are told in both ways
told-own : (protocol : Protocol) (label : ℕ) (l : Lab) → is_some (own_label protocol l) ≡ true → same_label l Own ≡ (label_of label l == label)
told-own protocol label Own h = sym (eq-eqb label label refl)
told-own protocol label (At l) h = cc

told-at : (inst : Instances) (label : ℕ) (l : Lab) → is_some (file_label inst l) ≡ true → same_label l (At label) ≡ (label_of 0 l == label)
told-at inst label Own h = cc
told-at inst label (At l) h = refl

-- ---- protocols

module _ (d : Decls) (formed : IsFormed d) (met : Each (IsMet d) (duties_of d)) where
  -- the label has this protocol, which has a coherence
  record IsCoherent (label p : ℕ) (protocol : Protocol) : Type 0 where
    of : slice_get d.inst.of label ≡ Some p
    there : slice_get d.inst.protocols p ≡ Some protocol
    coherence : (protocol_in d.inst (Some p)).coherence ≡ Some (coherence_of d.inst p)

  by-coherence : (label : ℕ) (state : State) → ((p : ℕ) (protocol : Protocol) → IsCoherent label p protocol → holds (coherence_of d.inst p) (no_names label) state ≡ true) → coherent d.inst label state ≡ true
  by-coherence label state h = by_label (slice_get d.inst.of label) refl
    where
      by_formula : (p : ℕ) (protocol : Protocol) (c : Option Formula) → slice_get d.inst.of label ≡ Some p → slice_get d.inst.protocols p ≡ Some protocol → (protocol_in d.inst (Some p)).coherence ≡ c → coherence_holds c label state ≡ true
      by_formula p protocol None e f g = refl
      by_formula p protocol (Some c) e f g =
          let same : coherence_of d.inst p ≡ c = ap (λ o. unwrap_or o True) g in
          ap (λ k. holds k (no_names label) state) (sym same) ∙ h p protocol (record { of = e; there = f; coherence = g ∙ ap Some (sym same) })

      by_protocol : (p : ℕ) (o : Option Protocol) → slice_get d.inst.of label ≡ Some p → slice_get d.inst.protocols p ≡ o → coherence_holds (protocol_in d.inst (Some p)).coherence label state ≡ true
      by_protocol p (Some protocol) e f = by_formula p protocol (protocol_in d.inst (Some p)).coherence e f refl
      by_protocol p None e f = ap (λ (q : Option Protocol). coherence_holds (unwrap_or q no_protocol).coherence label state) f

      by_label : (o : Option ℕ) → slice_get d.inst.of label ≡ o → coherence_holds (protocol_in d.inst (slice_get d.inst.of label)).coherence label state ≡ true
      by_label None e = ap (λ o. coherence_holds (protocol_in d.inst o).coherence label state) e
      by_label (Some p) e = ap (λ o. coherence_holds (protocol_in d.inst o).coherence label state) e ∙ by_protocol p (slice_get d.inst.protocols p) e refl

  module _ (label p : ℕ) (protocol : Protocol) (is : IsCoherent label p protocol) where
    abbrev F : Formula
    F = coherence_of d.inst p

    same-protocol : protocol_at d.inst label ≡ protocol_in d.inst (Some p)
    same-protocol = ap (protocol_in d.inst) is.of

    found : protocol_in d.inst (Some p) ≡ protocol
    found = ap (λ o. unwrap_or o no_protocol) is.there

    coherent-is : (state : State) → coherent d.inst label state ≡ holds F (no_names label) state
    coherent-is state = ap (λ (q : Protocol). coherence_holds q.coherence label state) same-protocol ∙ ap (λ c. coherence_holds c label state) is.coherence

    known : FormulaIsKnown (scope_of (own_label protocol) []) F
    known = (subst (CoherenceIsFormed protocol) (ap (λ (q : Protocol). q.coherence) (sym found) ∙ is.coherence) (formed.inst.protocols p protocol is.there).coherence).0

    about : IsAbout d.inst (Some p) F
    about = closed-fits (spoken_of d.inst (Some p)) (own_label protocol) F known spoken
      where
        spoken : (l : Lab) → is_some (own_label protocol l) ≡ true → spoken_of d.inst (Some p) l ≡ own_label protocol l
        spoken Own h = is.there
        spoken (At l) h = cc

    told : Each (λ l. same_label l Own ≡ (label_of label l == label)) (labels_of F)
    told = each-map (λ l. is_some (own_label protocol l) ≡ true) _ (labels_of F) (labels-there F (scope_of (own_label protocol) []) known) (told-own protocol label)

    duties-met : Each (IsMet d) (InitProtocol p ∷ steps_of_tags (StepProtocol p) Own F (protocol_in d.inst (Some p)))
    duties-met = subst (λ c. Each (IsMet d) (duties_with d p c)) is.coherence
        (flat-at (IsMet d) (duties_of_protocol d) (positions d.inst.protocols) p
        (each-front (IsMet d) (flat_map (duties_of_protocol d) (positions d.inst.protocols)) (flat_map (duties_of_invariant d) (positions d.invariants)) met)
        (has-position d.inst.protocols p (get-within d.inst.protocols p protocol is.there)))

    abbrev tag_here : ℕ → Tag
    tag_here tag = unwrap_or (slice_get (protocol_in d.inst (Some p)).tags tag) no_tag

    same-tag : (tag : ℕ) → tag_here tag ≡ tag_at d.inst label tag
    same-tag tag = ap (λ (q : Protocol). unwrap_or (slice_get q.tags tag) no_tag) (sym same-protocol)

    steps-met : (tag : ℕ) → HasTag d.inst label tag → Each (IsMet d) (steps_of_tag (StepProtocol p tag) Own tag F (tag_here tag))
    steps-met tag has_tag = flat-at (IsMet d) (λ tag. steps_of_tag (StepProtocol p tag) Own tag F (tag_here tag)) (positions (protocol_in d.inst (Some p)).tags) tag duties-met.1
        (has-position (protocol_in d.inst (Some p)).tags tag (subst (λ (q : Protocol). tag < length q.tags) (one-protocol has_tag) has_tag.within))
      where
        one-protocol : (t : HasTag d.inst label tag) → t.protocol ≡ protocol_in d.inst (Some p)
        one-protocol t = sym (ap (protocol_in d.inst) t.of ∙ ap (λ o. unwrap_or o no_protocol) t.there) ∙ same-protocol

    first-coherent : holds F (no_names label) (first_state d.inst) ≡ true
    first-coherent =
        let m = duties-met.0 in
        sym (first-holds d.inst (Some p) F (no_names label) (first_state d.inst) formed.inst refl is.of about (λ x. (no-variable (own_label protocol) F known x, no-message (own_label protocol) F known x)))
        ∙ m.2 label is.of (first_state d.inst) (no_names label) (first-sorted d.inst formed.inst) (record { own_label = refl; variables = tt; messages = tt }) tt

    module _ (state : State) (node : ℕ) (sorted : IsWellSorted d.inst state) (node_known : node < d.inst.nodes) (holds_before : holds F (no_names label) state ≡ true) where
      sent-valid : (tag : ℕ) (to : ℤ) (args : List ℤ) → IsEnabled d.inst state node label tag to args → IsMet d (StepProtocol p tag false) → holds F (no_names label) (after_step d.inst state node (Sending label tag to args)) ≡ true
      sent-valid tag to args can ([], may, valid) = absurd (let e = may.count in omega (e, arith))
      sent-valid tag to args can (s ∷ [], may, valid) = absurd (let e = may.count in omega (e, arith))
      sent-valid tag to args can (s ∷ t ∷ xs, may, valid) =
          let names = numbered label (s ∷ t ∷ xs) (pos node ∷ to ∷ args) in
          closed-same (own_label protocol) F (no_names label) names (after_step d.inst state node (Sending label tag to args)) known refl
          ∙ send-kept d.inst (Some p) Own tag label label protocol is.there refl is.of formed.inst state sorted node node_known to args can s t xs (let e = may.count in omega (e, arith)) may.distinct
          (self_fact d.inst p) [] F may.unbound about (valid label is.of) (closed-same (own_label protocol) F names (no_names label) state known refl ∙ holds_before, tt) tt

      sent-coherent : (tag : ℕ) (to : ℤ) (args : List ℤ) → IsEnabled d.inst state node label tag to args → holds F (no_names label) (after_step d.inst state node (Sending label tag to args)) ≡ true
      sent-coherent tag to args can = by_touch (is_touched (send_touch Own tag (tag_here tag).send) F) refl
        where
          by_touch : (b : Bool) → is_touched (send_touch Own tag (tag_here tag).send) F ≡ b → holds F (no_names label) (after_step d.inst state node (Sending label tag to args)) ≡ true
          by_touch true e = sent-valid tag to args can
              (if-there (IsMet d) (is_touched (send_touch Own tag (tag_here tag).send) F) (StepProtocol p tag false)
              (each-front (IsMet d) (if_touched (send_touch Own tag (tag_here tag).send) F (StepProtocol p tag false)) (receive_of_tag (StepProtocol p tag true) Own tag F (tag_here tag).receive)
              (steps-met tag (sent-there d.inst state node label tag to args can))) e)
          by_touch false e =
              sym (send-untouched d.inst state node label F (binds-no-word F (scope_of (own_label protocol) []) known) Own label tag to args (tag_here tag).send told (ap (λ (t : Tag). t.send) (same-tag tag)) e) ∙ holds_before

      received-valid : (id : ℕ) → IsReceivable d.inst state node label id → IsMet d (StepProtocol p (message_in state label id).tag true) → holds F (no_names label) (after_step d.inst state node (Receiving label id)) ≡ true
      received-valid id can ([], may, valid) = absurd (let e = may.count in omega (e, arith))
      received-valid id can (r ∷ [], may, valid) = absurd (let e = may.count in omega (e, arith))
      received-valid id can (r ∷ k ∷ xs, may, valid) =
          let names = receiving label r (pos node) k label id in
          closed-same (own_label protocol) F (no_names label) names (after_step d.inst state node (Receiving label id)) known refl
          ∙ receive-kept d.inst (Some p) Own label label protocol is.there refl is.of formed.inst (λ l e. cc) state sorted node node_known id can r k xs
          (self_fact d.inst p) F may.unbound about (valid label is.of) (closed-same (own_label protocol) F names (no_names label) state known refl ∙ holds_before, tt)

      -- the tag of the message with this id
      abbrev taken : ℕ → ℕ
      taken id = (message_in state label id).tag

      received-coherent : (id : ℕ) → IsReceivable d.inst state node label id → holds F (no_names label) (after_step d.inst state node (Receiving label id)) ≡ true
      received-coherent id can = by_receive (tag_here (taken id)).receive refl
          (each-back (IsMet d) (if_touched (send_touch Own (taken id) (tag_here (taken id)).send) F (StepProtocol p (taken id) false)) (receive_of_tag (StepProtocol p (taken id) true) Own (taken id) F (tag_here (taken id)).receive)
          (steps-met (taken id) (received-there d.inst state node label id can)))
        where
          same-receive : (o : Option Transition) → (tag_here (taken id)).receive ≡ o → unwrap_or o never ≡ receive_at d.inst label (message_in state label id)
          same-receive o e = ap (λ q. unwrap_or q never) (sym e) ∙ ap receive_of (same-tag (taken id))

          by_touch : (t : Transition) (b : Bool) → t ≡ receive_at d.inst label (message_in state label id) → is_touched (receive_touch Own (taken id) t) F ≡ b → Each (IsMet d) (if_touched (receive_touch Own (taken id) t) F (StepProtocol p (taken id) true))
              → holds F (no_names label) (after_step d.inst state node (Receiving label id)) ≡ true
          by_touch t true same e m = received-valid id can (if-there (IsMet d) (is_touched (receive_touch Own (taken id) t) F) (StepProtocol p (taken id) true) m e)
          by_touch t false same e m =
              sym (receive-untouched d.inst state node label F (binds-no-word F (scope_of (own_label protocol) []) known) Own label id t told same e) ∙ holds_before

          by_receive : (o : Option Transition) → (tag_here (taken id)).receive ≡ o → Each (IsMet d) (receive_of_tag (StepProtocol p (taken id) true) Own (taken id) F o) → holds F (no_names label) (after_step d.inst state node (Receiving label id)) ≡ true
          by_receive None e m = absurd (false≢true (ap (λ (t : Transition). holds t.guard (names_of_receive d.inst label (message_in state label id) node) state) (same-receive None e) ∙ can.guard))
          by_receive (Some t) e m = by_touch t (is_touched (receive_touch Own (taken id) t) F) (same-receive (Some t) e) refl m

      stepped : (step : Step) → label_of_step step ≡ label → CanStep d.inst state node step → holds F (no_names label) (after_step d.inst state node step) ≡ true
      stepped (Sending at tag to args) e can = subst (λ l. holds F (no_names label) (after_step d.inst state node (Sending l tag to args)) ≡ true) (sym e)
          (sent-coherent tag to args (subst (λ l. IsEnabled d.inst state node l tag to args) e can))
      stepped (Receiving at id) e can = subst (λ l. holds F (no_names label) (after_step d.inst state node (Receiving l id)) ≡ true) (sym e)
          (received-coherent id (subst (λ l. IsReceivable d.inst state node l id) e can))

  pub protocols-mean : ProtocolObligations d
  protocols-mean = record {
    init = λ label. by-coherence label (first_state d.inst) (λ p protocol is. first-coherent label p protocol is);
    step = λ state node step sorted known good can. by-coherence (label_of_step step) (after_step d.inst state node step) (λ p protocol is.
        stepped (label_of_step step) p protocol is state node sorted known (sym (coherent-is (label_of_step step) p protocol is state) ∙ good) step refl can);
  }

-- ---- invariants

module _ (d : Decls) (formed : IsFormed d) (met : Each (IsMet d) (duties_of d)) (i : ℕ) (invariant : Invariant) (is : slice_get d.invariants i ≡ Some invariant) where
  abbrev G : Formula
  G = (invariant_at d i).formula

  abbrev world : World
  world = invariant_world d i

  found-at : invariant_at d i ≡ invariant
  found-at = ap (λ o. unwrap_or o (record { sym = 0; world = 0; formula = True })) is

  closed : FormulaIsKnown (scope_of (file_label d.inst) []) G
  closed = subst (λ (v : Invariant). FormulaIsKnown (scope_of (file_label d.inst) []) v.formula) (sym found-at) (formed.invariants i invariant is).formula.0

  about-file : IsAbout d.inst None G
  about-file = closed-fits (spoken_of d.inst None) (file_label d.inst) G closed (λ l h. refl)

  told-file : (label : ℕ) → Each (λ l. same_label l (At label) ≡ (label_of 0 l == label)) (labels_of G)
  told-file label = each-map (λ l. is_some (file_label d.inst l) ≡ true) _ (labels_of G) (labels-there G (scope_of (file_label d.inst) []) closed) (told-at d.inst label)

  all-met : Each (IsMet d) (InitInvariant i ∷ flat_map (steps_at_label d i) world.labels)
  all-met = flat-at (IsMet d) (duties_of_invariant d) (positions d.invariants) i
      (each-back (IsMet d) (flat_map (duties_of_protocol d) (positions d.inst.protocols)) (flat_map (duties_of_invariant d) (positions d.invariants)) met)
      (has-position d.invariants i (get-within d.invariants i invariant is))

  abbrev tag_there : ℕ → ℕ → Tag
  tag_there label tag = unwrap_or (slice_get (protocol_at d.inst label).tags tag) no_tag

  label-met : (label tag : ℕ) → has world.labels label ≡ true → HasTag d.inst label tag → Each (IsMet d) (steps_of_tag (StepInvariant i label tag) (At label) tag G (tag_there label tag))
  label-met label tag m has_tag = flat-at (IsMet d) (λ tag. steps_of_tag (StepInvariant i label tag) (At label) tag G (tag_there label tag)) (positions (protocol_at d.inst label).tags) tag
      (flat-at (IsMet d) (steps_at_label d i) world.labels label all-met.1 m)
      (has-position (protocol_at d.inst label).tags tag (subst (λ (q : Protocol). tag < length q.tags) (one-protocol has_tag) has_tag.within))
    where
      one-protocol : (t : HasTag d.inst label tag) → t.protocol ≡ protocol_at d.inst label
      one-protocol t = sym (ap (protocol_in d.inst) t.of ∙ ap (λ o. unwrap_or o no_protocol) t.there)

  first-holding : holds G (no_names 0) (first_state d.inst) ≡ true
  first-holding =
      let m = all-met.0 in
      sym (first-holds d.inst None G (no_names 0) (first_state d.inst) formed.inst refl tt about-file (λ x. (no-variable (file_label d.inst) G closed x, no-message (file_label d.inst) G closed x)))
      ∙ m.2 0 (first_state d.inst) (no_names 0) (first-sorted d.inst formed.inst) (record { own_label = refl; variables = tt; messages = tt }) tt

  spoken-at : (label tag : ℕ) → (t : HasTag d.inst label tag) → spoken_of d.inst None (At label) ≡ Some t.protocol
  spoken-at label tag t = ap (protocol_found d.inst) t.of ∙ t.there

  small-label : (label tag : ℕ) → HasTag d.inst label tag → (l : ℕ) → At label ≡ At l → l < 255
  small-label label tag t l e =
      let same : label ≡ l = cc in
      let less = get-within d.inst.of label t.number t.of in
      let few = formed.small.labels in
      subst (λ n. n < 255) same (omega (less, few, arith))

  module _ (state : State) (node : ℕ) (sorted : IsWellSorted d.inst state) (node_known : node < d.inst.nodes) (facts : FactsBefore d i world state) (good : holds G (no_names 0) state ≡ true) where
    facts-there : (names : Names) → names.own ≡ 0 → Each (λ h. holds h.formula names state ≡ true) (facts_with d i)
    facts-there names own = each-append (λ h. holds h.formula names state ≡ true) (facts_of d i world) (called (invariant_at d i).sym G ∷ [])
        (facts-say d formed names state own i world facts) (closed-same (file_label d.inst) G names (no_names 0) state closed own ∙ good, tt)

    sent-proved : (label tag : ℕ) (to : ℤ) (args : List ℤ) → IsEnabled d.inst state node label tag to args → Meets d world state node (Sending label tag to args) → IsMet d (StepInvariant i label tag false)
        → holds G (no_names 0) (after_step d.inst state node (Sending label tag to args)) ≡ true
    sent-proved label tag to args can meets ([], may, valid) = absurd (let e = may.count in omega (e, arith))
    sent-proved label tag to args can meets (s ∷ [], may, valid) = absurd (let e = may.count in omega (e, arith))
    sent-proved label tag to args can meets (s ∷ t ∷ xs, may, valid) =
        let names = numbered 0 (s ∷ t ∷ xs) (pos node ∷ to ∷ args) in
        let h = sent-there d.inst state node label tag to args can in
        let e = may.count in
        let count : length xs ≡ length (tag_of d.inst None (At label) tag).args = omega (e, arith) in
        closed-same (file_label d.inst) G (no_names 0) names (after_step d.inst state node (Sending label tag to args)) closed refl
        ∙ send-kept d.inst None (At label) tag 0 label h.protocol (spoken-at label tag h) refl tt formed.inst state sorted node node_known to args can s t xs count may.distinct
        (facts_with d i) (hooks_fact d world label tag (s ∷ t ∷ xs)) G may.unbound about-file (valid 0) (facts-there names refl) (
          hooks-say d formed world label tag names state node to args refl s t xs
              (read d.inst None (At label) tag 0 label h.protocol (spoken-at label tag h) refl tt formed.inst state sorted node node_known to args can s t xs count may.distinct)
              (λ syms x. send-names-over s t xs syms x) meets
              (λ y m. (hooks-lack d.inst None (At label) tag 0 label h.protocol (spoken-at label tag h) refl tt formed.inst state sorted node node_known to args can s t xs count may.distinct
              (facts_with d i) (hooks_fact d world label tag (s ∷ t ∷ xs)) G may.unbound y m).0),
          tt,
        )

    sent-kept : (label tag : ℕ) (to : ℤ) (args : List ℤ) → has world.labels label ≡ true → IsEnabled d.inst state node label tag to args → Meets d world state node (Sending label tag to args)
        → holds G (no_names 0) (after_step d.inst state node (Sending label tag to args)) ≡ true
    sent-kept label tag to args m can meets = by_touch (is_touched (send_touch (At label) tag (tag_there label tag).send) G) refl
      where
        by_touch : (b : Bool) → is_touched (send_touch (At label) tag (tag_there label tag).send) G ≡ b → holds G (no_names 0) (after_step d.inst state node (Sending label tag to args)) ≡ true
        by_touch true e = sent-proved label tag to args can meets
            (if-there (IsMet d) (is_touched (send_touch (At label) tag (tag_there label tag).send) G) (StepInvariant i label tag false)
            (each-front (IsMet d) (if_touched (send_touch (At label) tag (tag_there label tag).send) G (StepInvariant i label tag false)) (receive_of_tag (StepInvariant i label tag true) (At label) tag G (tag_there label tag).receive)
            (label-met label tag m (sent-there d.inst state node label tag to args can))) e)
        by_touch false e =
            sym (send-untouched d.inst state node 0 G (binds-no-word G (scope_of (file_label d.inst) []) closed) (At label) label tag to args (tag_there label tag).send (told-file label) refl e) ∙ good

    received-proved : (label id : ℕ) → IsReceivable d.inst state node label id → IsMet d (StepInvariant i label (message_in state label id).tag true) → holds G (no_names 0) (after_step d.inst state node (Receiving label id)) ≡ true
    received-proved label id can ([], may, valid) = absurd (let e = may.count in omega (e, arith))
    received-proved label id can (r ∷ [], may, valid) = absurd (let e = may.count in omega (e, arith))
    received-proved label id can (r ∷ k ∷ xs, may, valid) =
        let names = receiving 0 r (pos node) k label id in
        let h = received-there d.inst state node label id can in
        closed-same (file_label d.inst) G (no_names 0) names (after_step d.inst state node (Receiving label id)) closed refl
        ∙ receive-kept d.inst None (At label) 0 label h.protocol (spoken-at label (message_in state label id).tag h) refl tt formed.inst (small-label label (message_in state label id).tag h) state sorted node node_known id can r k xs
        (facts_with d i) G may.unbound about-file (valid 0) (facts-there names refl)

    received-kept : (label id : ℕ) → has world.labels label ≡ true → IsReceivable d.inst state node label id → holds G (no_names 0) (after_step d.inst state node (Receiving label id)) ≡ true
    received-kept label id m can = by_receive (tag_there label (message_in state label id).tag).receive refl
        (each-back (IsMet d) (if_touched (send_touch (At label) (message_in state label id).tag (tag_there label (message_in state label id).tag).send) G (StepInvariant i label (message_in state label id).tag false))
        (receive_of_tag (StepInvariant i label (message_in state label id).tag true) (At label) (message_in state label id).tag G (tag_there label (message_in state label id).tag).receive)
        (label-met label (message_in state label id).tag m (received-there d.inst state node label id can)))
      where
        by_touch : (t : Transition) (b : Bool) → t ≡ receive_at d.inst label (message_in state label id) → is_touched (receive_touch (At label) (message_in state label id).tag t) G ≡ b
            → Each (IsMet d) (if_touched (receive_touch (At label) (message_in state label id).tag t) G (StepInvariant i label (message_in state label id).tag true))
            → holds G (no_names 0) (after_step d.inst state node (Receiving label id)) ≡ true
        by_touch t true same e h = received-proved label id can (if-there (IsMet d) (is_touched (receive_touch (At label) (message_in state label id).tag t) G) (StepInvariant i label (message_in state label id).tag true) h e)
        by_touch t false same e h =
            sym (receive-untouched d.inst state node 0 G (binds-no-word G (scope_of (file_label d.inst) []) closed) (At label) label id t (told-file label) same e) ∙ good

        by_receive : (o : Option Transition) → (tag_there label (message_in state label id).tag).receive ≡ o
            → Each (IsMet d) (receive_of_tag (StepInvariant i label (message_in state label id).tag true) (At label) (message_in state label id).tag G o)
            → holds G (no_names 0) (after_step d.inst state node (Receiving label id)) ≡ true
        by_receive None e h = absurd (false≢true (ap (λ q. holds (unwrap_or q never).guard (names_of_receive d.inst label (message_in state label id) node) state) (sym e) ∙ can.guard))
        by_receive (Some t) e h = by_touch t (is_touched (receive_touch (At label) (message_in state label id).tag t) G) (ap (λ q. unwrap_or q never) (sym e)) refl h

    step-kept : (step : Step) → has world.labels (label_of_step step) ≡ true → CanStep d.inst state node step → Meets d world state node step → holds G (no_names 0) (after_step d.inst state node step) ≡ true
    step-kept (Sending label tag to args) m can meets = sent-kept label tag to args m can meets
    step-kept (Receiving label id) m can meets = received-kept label id m can

  pub invariant-means : InvariantObligations d i (invariant_at d i)
  invariant-means = record {
    init = first-holding;
    step = λ state node step sorted known facts good m can meets. step-kept state node sorted known facts good step m can meets;
  }

-- ---- all of them

pub obligations-mean : (d : Decls) → IsFormed d → Each (IsMet d) (duties_of d) → StateObligations d
obligations-mean d formed met = record {
  protocols = protocols-mean d formed met;
  invariants = λ i invariant e. subst (InvariantObligations d i) (ap (λ o. unwrap_or o (record { sym = 0; world = 0; formula = True })) e) (invariant-means d formed met i invariant e);
}
