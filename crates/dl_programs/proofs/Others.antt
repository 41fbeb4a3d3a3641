-- A step of another node keeps a formula of a procedure, by its valid obligation or because it does not touch the formula.
use Rattle.std.proofs.Common.{◌≡◌, ℕ, ◌<◌, ℤ, pos, Bool, true, false, not, ◌==◌, if◌then◌else◌, Option, Some, None, List, [], ◌∷◌, ◌++◌, map, length, slice_get, unwrap_or, refl, ap, sym, subst, ◌∙◌, eq-eqb, arith}
use Rattle.std.proofs.lemmas.Bool.{false≢true}
use Rattle.std.specs.Prelude.{is_some}
use Rattle.std.specs.List.{AllByRecursion as Each, AllZip}
use Rattle.dl_term.specs.declared.syntax.Lab.{Lab}
use Rattle.dl_term.specs.declared.syntax.Lab.TheVariants.{Own, At}
use Rattle.dl_term.specs.declared.syntax.Sort.{Sort}
use Rattle.dl_term.specs.declared.syntax.Term.{Var, Msg}
use Rattle.dl_term.specs.declared.syntax.Formula.{Formula}
use Rattle.dl_term.specs.Syntax.{opened}
use Rattle.dl_term.specs.State.{State, soup_at, tag_of as tag_of_message}
use Rattle.dl_term.specs.Names.{Names, Stored, label_of, with_number}
use Rattle.dl_term.specs.Meaning.{value, holds}
use Rattle.dl_term.specs.Same.{same_label}
use Rattle.dl_model.specs.declared.protocol.Transition.{Transition}
use Rattle.dl_model.specs.declared.protocol.Tag.{Tag}
use Rattle.dl_model.specs.declared.protocol.Protocol.{Protocol}
use Rattle.dl_model.specs.declared.protocol.Instances.{Instances}
use Rattle.dl_model.specs.declared.sequent.Sequent.{Sequent}
use Rattle.dl_model.specs.declared.program.Proc.{Proc}
use Rattle.dl_model.specs.declared.file.Decls.{Decls}
use Rattle.dl_model.specs.Sorts.{in_sort, all_in_sorts, has}
use Rattle.dl_model.specs.Lookup.{Parameter, no_protocol, protocol_in, protocol_at, no_tag, tag_at, receive_of, never, arg_sorts, proc_at, world_of, arg_names}
use Rattle.dl_model.specs.Words.{me_word, with_numbers, from_word, to_word}
use Rattle.dl_model.specs.Steps.{Step, Sending, Receiving, IsEnabled, IsReceivable, CanStep, Meets, after_step, message_in, receive_at, names_of_send, names_of_receive, label_of_step}
use Rattle.dl_model.specs.Scopes.{file_label, protocol_found, FormulaIsKnown}
use Rattle.dl_model.specs.Spoken.{bound_names, labels_of}
use Rattle.dl_model.specs.Formed.{AreDistinct, proc_variables, IsFormed}
use Rattle.dl_model.specs.Sequents.{Fits, FactsHold, StandsForMessage, message_label, IsValid}
use Rattle.dl_model.proofs.Small.{and-left, and-right, and-both, or-true-left, or-true-right, eqb-other, each-map, each-front, each-back}
use Rattle.dl_sequent.specs.Bounds.{node_sort}
use Rattle.dl_sequent.specs.declared.duty.Duty.{Duty}
use Rattle.dl_wp.specs.Steps.{spoken_of, tag_in, args_of_message, receive_step, send_step}
use Rattle.dl_wp.proofs.Cells.{int-false}
use Rattle.dl_wp.proofs.Model.{length-map}
use Rattle.dl_inv.specs.Touched.{fields_of, is_touched, formula_touched, none_live}
use Rattle.dl_inv.specs.Steps.{tag_of, send_by, receive_by, send_hypotheses, receive_hypotheses}
use Rattle.dl_inv.specs.Obligations.{with_sort, with_sorts, send_known, receive_known, hooks_fact}
use Rattle.dl_inv.specs.Duties.{send_touch, receive_touch, if_touched, positions}
use Rattle.dl_inv.specs.Taken.{bound_in}
use Rattle.dl_inv.proofs.Lists.{each-append, each-at, true-false, not-true}
use Rattle.dl_inv.proofs.Clear.{IsOver, send-names-over}
use Rattle.dl_inv.proofs.Bound.{bound-in-step, bound-before, Lacks, facts-lack, goal-lacks, turned}
use Rattle.dl_sound.specs.Obligations.{StandsAt}
use Rattle.dl_sound.specs.Touched.{touch_at, touch_of}
use Rattle.dl_sound.proofs.Effects.{untouched-kept}
use Rattle.dl_sound.proofs.Bridge.{labels-there}
use Rattle.dl_sound.proofs.Scoped.{formula-told}
use Rattle.dl_sound.proofs.Members.{get-within, has-position, flat-at, if-there}
use Rattle.dl_sound.proofs.StepNames.{sorts-length, node-in-sort, node-is}
use Rattle.dl_sound.proofs.WorldFacts.{hooks-say}
use Rattle.dl_triples.specs.Duties.{by_another, receive_of_another, steps_of_another, steps_of_others, steps_of_world}
use Rattle.dl_triples.specs.Obligations.{facts_at, beside, is_other, kept_by_send, kept_by_receive, kept_sequent}
use Rattle.dl_triples.specs.Taken.{names_of_step, IsMet}
use Rattle.dl_programs.proofs.Known.{file_scope, file-same, file-about}
use Rattle.dl_programs.proofs.Put.{later-number}
use Rattle.dl_programs.proofs.Standing.{plain, Follows, facts-hold}
use Rattle.dl_programs.proofs.SendTerms.{guard-same, fits-said, after-send}
use Rattle.dl_programs.proofs.ReceiveTerms.{received-is-there, received-is, receive-said, after-receive}
use Rattle.dl_term.specs.declared.syntax.Part.TheVariants.{From}
use Rattle.dl_wp.specs.Conditions.{AreThere}

-- ---- the tag of a step is there

-- the protocol of a label, and a tag of it
pub record HasTag (inst : Instances) (label tag : ℕ) : Type 0 where
  pub number : ℕ
  pub protocol : Protocol
  pub of : slice_get inst.of label ≡ Some number
  pub there : slice_get inst.protocols number ≡ Some protocol
  pub within : tag < length protocol.tags

pub tag-is-there : (inst : Instances) (label tag : ℕ) → (tag_at inst label tag ≡ no_tag → ⊥) → HasTag inst label tag
tag-is-there inst label tag h = by_label (slice_get inst.of label) refl
  where
    by_tag : (p : ℕ) (protocol : Protocol) (o : Option Tag) → slice_get inst.of label ≡ Some p → slice_get inst.protocols p ≡ Some protocol → slice_get protocol.tags tag ≡ o → HasTag inst label tag
    by_tag p protocol (Some t) e f g = record { number = p; protocol = protocol; of = e; there = f; within = get-within protocol.tags tag t g }
    by_tag p protocol None e f g = absurd (h (ap (λ (q : Protocol). unwrap_or (slice_get q.tags tag) no_tag) (ap (protocol_in inst) e ∙ ap (λ o. unwrap_or o no_protocol) f) ∙ ap (λ o. unwrap_or o no_tag) g))

    by_protocol : (p : ℕ) (o : Option Protocol) → slice_get inst.of label ≡ Some p → slice_get inst.protocols p ≡ o → HasTag inst label tag
    by_protocol p (Some protocol) e f = by_tag p protocol (slice_get protocol.tags tag) e f refl
    by_protocol p None e f = absurd (h (ap (λ (q : Protocol). unwrap_or (slice_get q.tags tag) no_tag) (ap (protocol_in inst) e ∙ ap (λ o. unwrap_or o no_protocol) f)))

    by_label : (o : Option ℕ) → slice_get inst.of label ≡ o → HasTag inst label tag
    by_label (Some p) e = by_protocol p (slice_get inst.protocols p) e refl
    by_label None e = absurd (h (ap (λ (q : Protocol). unwrap_or (slice_get q.tags tag) no_tag) (ap (protocol_in inst) e)))

sent-there : (inst : Instances) (state : State) (node label tag : ℕ) (to : ℤ) (args : List ℤ) → IsEnabled inst state node label tag to args → HasTag inst label tag
sent-there inst state node label tag to args h = tag-is-there inst label tag (λ e. false≢true (sym (ap (λ (t : Tag). holds t.send.guard (names_of_send inst label tag node to args) state) e) ∙ h.guard))

received-there : (inst : Instances) (state : State) (node label id : ℕ) → IsReceivable inst state node label id → HasTag inst label (message_in state label id).tag
received-there inst state node label id h = tag-is-there inst label (message_in state label id).tag (λ e. false≢true (sym (ap (λ (t : Tag). holds (receive_of t).guard (names_of_receive inst label (message_in state label id) node) state) e) ∙ h.guard))

spoken-at : (inst : Instances) (label tag : ℕ) → (t : HasTag inst label tag) → spoken_of inst None (At label) ≡ Some t.protocol
spoken-at inst label tag t = ap (protocol_found inst) t.of ∙ t.there

-- ---- the names of a step beside those of the procedure

first-number : (x : ℕ) (xs : List ℕ) (v : ℤ) (vs : List ℤ) (base : Names) → has xs x ≡ false → (with_numbers base (x ∷ xs) (v ∷ vs)).number x ≡ v
first-number x xs v vs base h = later-number (with_number base x v) xs vs x h ∙ ap (λ b. if b then v else base.number x) (eq-eqb x x refl)

reads-from : (xs : List ℕ) (vs : List ℤ) (base names : Names) (state : State) → ((x : ℕ) → names.number x ≡ (with_numbers base xs vs).number x) → AreDistinct xs → length xs ≡ length vs → AllZip (λ t v. value t names state ≡ v) (map (λ x. Var x) xs) vs
reads-from [] [] base names state h d e = tt
reads-from [] (v ∷ vs) base names state h d e = absurd (omega (e, arith))
reads-from (x ∷ xs) [] base names state h d e = absurd (omega (e, arith))
reads-from (x ∷ xs) (v ∷ vs) base names state h d e = (h x ∙ first-number x xs v vs base d.0, reads-from xs vs (with_number base x v) names state h d.1 (omega (e, arith)))

sorts-from : (xs : List ℕ) (sorts : List Sort) (vs : List ℤ) (base names : Names) → ((x : ℕ) → names.number x ≡ (with_numbers base xs vs).number x) → AreDistinct xs → all_in_sorts sorts vs ≡ true
    → Each (λ v. in_sort v.1 (names.number v.0) ≡ true) (with_sorts xs sorts)
sorts-from [] sorts vs base names h d e = tt
sorts-from (x ∷ xs) [] vs base names h d e = tt
sorts-from (x ∷ xs) (sort ∷ sorts) [] base names h d e = cc
sorts-from (x ∷ xs) (sort ∷ sorts) (v ∷ vs) base names h d e = (
  ap (in_sort sort) (h x ∙ first-number x xs v vs base d.0) ∙ and-left (in_sort sort v) (all_in_sorts sorts vs) e,
  sorts-from xs sorts vs (with_number base x v) names h d.1 (and-right (in_sort sort v) (all_in_sorts sorts vs) e),
)

vars-over : (ns xs : List ℕ) → ((x : ℕ) → has xs x ≡ true → has ns x ≡ true) → Each (IsOver ns) (map (λ x. Var x) xs)
vars-over ns [] h = tt
vars-over ns (x ∷ xs) h = ((λ p m a b. a x (h x (or-true-left (x == x) (has xs x) (eq-eqb x x refl)))), vars-over ns xs (λ y there. h y (or-true-right (y == x) (has xs y) there)))

-- The obligation of a step is valid for some names that are new.
pub record KeptMet (d : Decls) (number : ℕ) (f : Formula) (whole : List ℕ) (vars : List Parameter) (label tag : ℕ) (receive : Bool) : Type 0 where
  pub names : List ℕ
  pub count : length names ≡ names_of_step d label tag receive
  pub distinct : AreDistinct names
  pub new : Each (λ name. has whole name ≡ false) names
  pub unbound : Each (λ name. has (bound_in (kept_sequent d (proc_at d.procs number) vars f label tag receive names)) name ≡ false) names
  pub valid : IsValid d.inst (kept_sequent d (proc_at d.procs number) vars f label tag receive names)

-- ---- steps of others

module _ (d : Decls) (formed : IsFormed d) (number : ℕ) (f : Formula) (mine whole : List ℕ) (vars : List Parameter) (known : FormulaIsKnown (file_scope d.inst mine) f) (within : (x : ℕ) → has mine x ≡ true → has whole x ≡ true)
    (among : (x : ℕ) → has (proc_variables (proc_at d.procs number)) x ≡ true → has whole x ≡ true) where
  abbrev proc : Proc
  proc = proc_at d.procs number

  module _ (node : ℕ) (names : Names) (state : State) (stands : StandsAt d number node names state f)
      (fit : (n : Names) → ((x : ℕ) → has whole x ≡ true → n.number x ≡ names.number x) → Each (λ v. in_sort v.1 (n.number v.0) ≡ true) vars) (mover : ℕ) (moves : mover < d.inst.nodes) (other : mover ≡ node → ⊥) where
    formula-there : (n : Names) (s : State) → ((x : ℕ) → has whole x ≡ true → n.number x ≡ names.number x) → holds f n s ≡ holds f names s
    formula-there n s same = file-same d.inst mine f n names s known (λ x h. same x (within x h))

    other-holds : (n : Names) (r : ℕ) → n.number r ≡ pos mover → n.number me_word ≡ pos node → holds (is_other (Var r)).formula n state ≡ true
    unfolding opened
    other-holds n r e g = ap not (int-false (n.number r) (n.number me_word) (λ q. other (same (sym e ∙ q ∙ g))))
      where
        same : pos mover ≡ pos node → mover ≡ node
        same q = cc

    -- ---- a send

    module _ (label tag : ℕ) (to : ℤ) (args : List ℤ) (enabled : IsEnabled d.inst state mover label tag to args) (meets : Meets d (world_of d number) state mover (Sending label tag to args)) (s t : ℕ) (xs : List ℕ)
        (count : length xs ≡ length (tag_of d.inst None (At label) tag).args) (distinct : AreDistinct (s ∷ t ∷ xs)) (new : Each (λ name. has whole name ≡ false) (s ∷ t ∷ xs))
        (unbound : Each (λ name. has (bound_in (kept_by_send d (proc_at d.procs number) vars f label tag (s ∷ t ∷ xs))) name ≡ false) (s ∷ t ∷ xs)) (valid : IsValid d.inst (kept_by_send d (proc_at d.procs number) vars f label tag (s ∷ t ∷ xs))) where
      abbrev ns : List ℕ
      ns = s ∷ t ∷ xs

      abbrev n : Names
      n = record { own = 0; number = (with_numbers names ns (pos mover ∷ to ∷ args)).number; message = λ m. None }

      abbrev later : State
      later = after_step d.inst state mover (Sending label tag to args)

      has-tag : HasTag d.inst label tag
      has-tag = sent-there d.inst state mover label tag to args enabled

      is : spoken_of d.inst None (At label) ≡ Some has-tag.protocol
      is = spoken-at d.inst label tag has-tag

      same-n : (x : ℕ) → has whole x ≡ true → n.number x ≡ names.number x
      same-n x h = later-number names ns (pos mover ∷ to ∷ args) x (not-true (has ns x) (λ taken. true-false (has whole x) h (each-at (λ name. has whole name ≡ false) ns x new taken)))

      follows : Follows d formed number n names
      follows = record { own = refl; same = λ x h. same-n x (among x h) }

      tag-same : tag_of d.inst None (At label) tag ≡ tag_at d.inst label tag
      tag-same = ap (λ p. tag_in p tag) is ∙ ap (λ (p : Protocol). unwrap_or (slice_get p.tags tag) no_tag) (sym (ap (protocol_in d.inst) has-tag.of ∙ ap (λ o. unwrap_or o no_protocol) has-tag.there))

      args-sorted : all_in_sorts (arg_sorts (tag_of d.inst None (At label) tag).args) args ≡ true
      args-sorted = ap (λ (u : Tag). all_in_sorts (arg_sorts u.args) args) tag-same ∙ enabled.arguments

      as-many : length xs ≡ length args
      as-many = count ∙ sym (length-map (λ (a : Parameter). a.1) (tag_of d.inst None (At label) tag).args) ∙ sorts-length (arg_sorts (tag_of d.inst None (At label) tag).args) args args-sorted

      read : AllZip (λ u v. value u n state ≡ v) (map (λ x. Var x) ns) (pos mover ∷ to ∷ args)
      read = reads-from ns (pos mover ∷ to ∷ args) names n state (λ x. refl) distinct (let e = as-many in omega (e, arith))

      abbrev sequent : Sequent
      sequent = kept_by_send d proc vars f label tag ns

      abbrev given : Sequent
      given = beside vars (send_known d.inst None (At label) tag ns)

      lacking : (y : ℕ) → has ns y ≡ true → has (bound_in sequent) y ≡ false
      lacking y m = each-at (λ name. has (bound_in sequent) name ≡ false) ns y unbound m

      step-lacks : (y : ℕ) → has ns y ≡ true → Each (Lacks y) (send_hypotheses d.inst given (send_by (At label) tag ns) ++ hooks_fact d (world_of d number) label tag ns)
      step-lacks y m = (each-back (Lacks y) (facts_at d proc f) (is_other (Var s) ∷ (send_hypotheses d.inst given (send_by (At label) tag ns) ++ hooks_fact d (world_of d number) label tag ns)) (facts-lack sequent y (lacking y m))).1

      guard-lacks : (y : ℕ) → has (bound_names (tag_at d.inst label tag).send.guard) y ≡ true → has ns y ≡ false
      guard-lacks y bound = not-true (has ns y) (λ m. true-false (has (bound_names (tag_at d.inst label tag).send.guard) y) bound
          (ap (λ (u : Tag). has (bound_names u.send.guard) y) (sym tag-same)
          ∙ ap (λ b. has b y) (sym (bound-in-step (At label) (Var s) to_word (Var t) (arg_names (tag_of d.inst None (At label) tag).args) (map (λ x. Var x) xs) (tag_of d.inst None (At label) tag).send.guard))
          ∙ (step-lacks y m).0))

      formula-lacks : (y : ℕ) → has (bound_names f) y ≡ true → has ns y ≡ false
      formula-lacks = turned (bound_names f) ns (λ y m. sym (bound-before (send_step d.inst None (send_by (At label) tag ns)) (λ k. false) f y) ∙ goal-lacks sequent y (lacking y m))

      s-over : IsOver ns (Var s)
      s-over p m a b = a s (or-true-left (s == s) (has (t ∷ xs) s) (eq-eqb s s refl))

      t-over : IsOver ns (Var t)
      t-over p m a b = a t (or-true-right (t == s) (has (t ∷ xs) t) (or-true-left (t == t) (has xs t) (eq-eqb t t refl)))

      xs-over : Each (IsOver ns) (map (λ x. Var x) xs)
      xs-over = vars-over ns xs (λ x m. or-true-right (x == s) (has (t ∷ xs) x) (or-true-right (x == t) (has xs x) m))

      fitting : Fits sequent 0 state n
      fitting = record {
        own_label = refl;
        variables = each-append (λ v. in_sort v.1 (n.number v.0) ≡ true) vars (with_sorts ns (node_sort d.inst.nodes ∷ node_sort d.inst.nodes ∷ arg_sorts (tag_of d.inst None (At label) tag).args)) (fit n same-n)
            (sorts-from ns (node_sort d.inst.nodes ∷ node_sort d.inst.nodes ∷ arg_sorts (tag_of d.inst None (At label) tag).args) (pos mover ∷ to ∷ args) names n (λ x. refl) distinct
            (and-both _ _ (node-in-sort d.inst.nodes (pos mover) (node-is d.inst.nodes mover moves)) (and-both _ _ (node-in-sort d.inst.nodes to enabled.addressee) args-sorted)));
        messages = tt;
      }

      me-there : n.number me_word ≡ pos node
      me-there = follows.same me_word (or-true-left (me_word == me_word) (has (arg_names proc.params ++ proc.locals) me_word) refl) ∙ stands.named.me

      hypotheses-hold : FactsHold sequent.facts n state
      hypotheses-hold = each-append (λ h. holds h.formula n state ≡ true) (facts_at d proc f) (is_other (Var s) ∷ (send_hypotheses d.inst given (send_by (At label) tag ns) ++ hooks_fact d (world_of d number) label tag ns))
          (facts-hold d formed number node names state f stands n follows (formula-there n state same-n ∙ stands.true_there)) (
            other-holds n s read.0 me-there,
            (
              guard-same d formed label tag has-tag.protocol is n state refl stands.sorted mover moves (Var s) (Var t) (map (λ x. Var x) xs) to args read.0 read.1.0 read.1.1 ns s-over t-over xs-over guard-lacks ∙ enabled.guard,
              (
                fits-said d formed label tag has-tag.protocol is n state refl stands.sorted mover moves (Var s) (Var t) (map (λ x. Var x) xs) to args read.0 read.1.0 read.1.1 ns s-over t-over xs-over given enabled.updates,
                (
                  hooks-say d formed (world_of d number) label tag n state mover to args refl s t xs read (λ syms x. send-names-over s t xs syms x) meets (λ y m. (step-lacks y m).1.1.0),
                  tt,
                ),
              ),
            ),
          )

      pub send-kept : holds f names later ≡ true
      send-kept =
          sym (formula-there n later same-n)
          ∙ sym (after-send d formed label tag has-tag.protocol is n state refl stands.sorted mover moves (Var s) (Var t) (map (λ x. Var x) xs) to args read.0 read.1.0 read.1.1 ns s-over t-over xs-over
          enabled (λ m l id e. cc) f (file-about d.inst mine f known) formula-lacks)
          ∙ valid 0 state n stands.sorted fitting hypotheses-hold

    -- ---- a receive

    module _ (label tag id : ℕ) (tagged : (message_in state label id).tag ≡ tag) (receivable : IsReceivable d.inst state mover label id) (r j : ℕ) (xs : List ℕ) (new : Each (λ name. has whole name ≡ false) (r ∷ j ∷ xs))
        (unbound : Each (λ name. has (bound_in (kept_by_receive d (proc_at d.procs number) vars f label tag (r ∷ j ∷ xs))) name ≡ false) (r ∷ j ∷ xs)) (valid : IsValid d.inst (kept_by_receive d (proc_at d.procs number) vars f label tag (r ∷ j ∷ xs))) where
      abbrev taken : List ℕ
      taken = r ∷ j ∷ xs

      abbrev m : Names
      m = record { own = 0; number = λ x. if x == r then pos mover else names.number x; message = λ held. if held == j then Some (Stored label id) else None }

      abbrev afterwards : State
      afterwards = after_step d.inst state mover (Receiving label id)

      tag-received : HasTag d.inst label (message_in state label id).tag
      tag-received = received-there d.inst state mover label id receivable

      spoken : spoken_of d.inst None (At label) ≡ Some tag-received.protocol
      spoken = spoken-at d.inst label (message_in state label id).tag tag-received

      same-m : (x : ℕ) → has whole x ≡ true → m.number x ≡ names.number x
      same-m x h = ap (λ b. if b then pos mover else names.number x) (eqb-other x r (λ e. true-false (has whole x) h (ap (has whole) e ∙ new.0)))

      follows-m : Follows d formed number m names
      follows-m = record { own = refl; same = λ x h. same-m x (among x h) }

      named-message : m.message j ≡ Some (Stored label id)
      named-message = ap (λ b. if b then Some (Stored label id) else None) (eq-eqb j j refl)

      named-node : m.number r ≡ pos mover
      named-node = ap (λ b. if b then pos mover else names.number r) (eq-eqb r r refl)

      is-there : id < length (soup_at state label)
      is-there = received-is-there d state mover label id receivable

      are-there : AreThere m state
      are-there held l i e = by_name (held == j) e
        where
          by_name : (b : Bool) → (if b then Some (Stored label id) else None) ≡ Some (Stored l i) → i < length (soup_at state l)
          by_name true q =
              let same : label ≡ l = cc in
              let one : id ≡ i = cc in
              subst (λ a. i < length (soup_at state a)) same (subst (λ a. a < length (soup_at state label)) one is-there)
          by_name false q = cc

      abbrev receive_sequent : Sequent
      receive_sequent = kept_by_receive d proc vars f label tag taken

      abbrev receive_given : Sequent
      receive_given = beside vars (receive_known d.inst None (At label) tag taken)

      receive-lacking : (y : ℕ) → has taken y ≡ true → has (bound_in receive_sequent) y ≡ false
      receive-lacking y held = each-at (λ name. has (bound_in receive_sequent) name ≡ false) taken y unbound held

      receive-lacks : (y : ℕ) → has taken y ≡ true → Each (Lacks y) (receive_hypotheses d.inst receive_given (receive_by (At label) tag taken))
      receive-lacks y held = (each-back (Lacks y) (facts_at d proc f) (is_other (Var r) ∷ receive_hypotheses d.inst receive_given (receive_by (At label) tag taken)) (facts-lack receive_sequent y (receive-lacking y held))).1

      tag-received-same : tag_of d.inst None (At label) tag ≡ tag_at d.inst label (message_in state label id).tag
      tag-received-same =
          ap (tag_of d.inst None (At label)) (sym tagged) ∙ ap (λ p. tag_in p (message_in state label id).tag) spoken
          ∙ ap (λ (p : Protocol). unwrap_or (slice_get p.tags (message_in state label id).tag) no_tag) (sym (ap (protocol_in d.inst) tag-received.of ∙ ap (λ o. unwrap_or o no_protocol) tag-received.there))

      receive-guard-lacks : (y : ℕ) → has (bound_names (receive_of (tag_at d.inst label (message_in state label id).tag)).guard) y ≡ true → has taken y ≡ false
      receive-guard-lacks y bound = not-true (has taken y) (λ held. true-false (has (bound_names (receive_of (tag_at d.inst label (message_in state label id).tag)).guard) y) bound
          (ap (λ (u : Tag). has (bound_names (receive_of u).guard) y) (sym tag-received-same)
          ∙ ap (λ b. has b y) (sym (bound-in-step (At label) (Var r) from_word (Msg j From) (arg_names (tag_of d.inst None (At label) tag).args) (args_of_message j) (receive_of (tag_of d.inst None (At label) tag)).guard))
          ∙ (receive-lacks y held).1.0))

      receive-formula-lacks : (y : ℕ) → has (bound_names f) y ≡ true → has taken y ≡ false
      receive-formula-lacks = turned (bound_names f) taken (λ y held. sym (bound-before (receive_step d.inst None (receive_by (At label) tag taken)) (λ k. false) f y) ∙ goal-lacks receive_sequent y (receive-lacking y held))

      r-over : IsOver taken (Var r)
      r-over p held a b = a r (or-true-left (r == r) (has (j ∷ xs) r) (eq-eqb r r refl))

      j-there : has taken j ≡ true
      j-there = or-true-right (j == r) (has (j ∷ xs) j) (or-true-left (j == j) (has xs j) (eq-eqb j j refl))

      label-is : message_label 0 label ≡ label
      label-is = ap (λ b. if b then 0 else label) (eqb-other label 255 (λ e.
          let less = get-within d.inst.of label tag-received.number tag-received.of in
          let few = formed.small.labels in
          omega (e, less, few, arith)))

      receive-fitting : Fits receive_sequent 0 state m
      receive-fitting = record {
        own_label = refl;
        variables = each-append (λ v. in_sort v.1 (m.number v.0) ≡ true) vars (with_sort (node_sort d.inst.nodes) r ∷ []) (fit m same-m) (ap (in_sort (node_sort d.inst.nodes)) named-node ∙ node-in-sort d.inst.nodes (pos mover) (node-is d.inst.nodes mover moves), tt);
        messages = (subst (λ l. StandsForMessage state m j l tag) (sym label-is) (id, named-message, (is-there, ap tag_of_message (received-is d state mover label id receivable) ∙ tagged)), tt);
      }

      me-too : m.number me_word ≡ pos node
      me-too = follows-m.same me_word (or-true-left (me_word == me_word) (has (arg_names proc.params ++ proc.locals) me_word) refl) ∙ stands.named.me

      receive-hypotheses-hold : FactsHold receive_sequent.facts m state
      receive-hypotheses-hold = each-append (λ h. holds h.formula m state ≡ true) (facts_at d proc f) (is_other (Var r) ∷ receive_hypotheses d.inst receive_given (receive_by (At label) tag taken))
          (facts-hold d formed number node names state f stands m follows-m (formula-there m state same-m ∙ stands.true_there)) (
            other-holds m r named-node me-too,
            receive-said d formed label tag tag-received.protocol spoken m state refl stands.sorted mover moves id tagged receivable (Var r) j named-node named-message are-there taken r-over j-there
                (vars ++ with_sort (node_sort d.inst.nodes) r ∷ []) (record { 0 = j; 1 = label; 2 = tag } ∷ []) receive-guard-lacks,
          )

      pub receive-kept : holds f names afterwards ≡ true
      receive-kept =
          sym (formula-there m afterwards same-m)
          ∙ sym (after-receive d formed label tag tag-received.protocol spoken m state refl stands.sorted mover moves id tagged receivable (Var r) j named-node named-message are-there taken r-over j-there
          f (file-about d.inst mine f known) receive-formula-lacks)
          ∙ valid 0 state m stands.sorted receive-fitting receive-hypotheses-hold

    -- ---- what is not touched

    told : (label : ℕ) → Each (λ l. same_label l (At label) ≡ (label_of 0 l == label)) (labels_of f)
    told label = each-map (λ l. is_some (file_label d.inst l) ≡ true) _ (labels_of f) (labels-there f (file_scope d.inst mine) known) (told_at label)
      where
        told_at : (label : ℕ) (l : Lab) → is_some (file_label d.inst l) ≡ true → same_label l (At label) ≡ (label_of 0 l == label)
        told_at label Own h = cc
        told_at label (At l) h = refl

    module _ (no_me : has (bound_names f) me_word ≡ false) where
      untouched : (label tag : ℕ) (grows : Bool) (t : Transition) (step : Step) → touch_of d.inst state 0 true step ≡ touch_at 0 label tag (fields_of t.updates) grows true
          → label_of_step step ≡ label → is_touched (record { here = λ l. same_label l (At label); tag = tag; fields = fields_of t.updates; grows = grows; spares_me = true }) f ≡ false → holds f names (after_step d.inst state mover step) ≡ true
      untouched label tag grows t step is at h =
          sym (formula-there (plain names) (after_step d.inst state mover step) (λ x m. refl))
          ∙ sym (untouched-kept d.inst state mover 0 true step f (plain names)
          (ap (λ u. formula_touched u none_live f) is ∙ sym (formula-told (record { here = λ l. same_label l (At label); tag = tag; fields = fields_of t.updates; grows = grows; spares_me = true }) (λ l. label_of 0 l == label) f none_live none_live refl (told label)) ∙ h) no_me
          (record { own_label = refl; me = λ e k. other (same (sym k ∙ stands.named.me)); known = λ m l id e. cc; live_only = λ m l id e k. cc }))
          ∙ formula-there (plain names) state (λ x m. refl) ∙ stands.true_there
        where
          same : pos mover ≡ pos node → mover ≡ node
          same q = cc

      -- ---- every step

      module _ (duty : ℕ → ℕ → Bool → Duty) (met : (label tag : ℕ) (receive : Bool) → IsMet d (duty label tag receive) → KeptMet d number f whole vars label tag receive) (each_met : Each (IsMet d) (steps_of_world d (world_of d number) duty f)) where
        tag-met : (label tag : ℕ) → has (world_of d number).labels label ≡ true → HasTag d.inst label tag → Each (IsMet d) (steps_of_another (duty label tag) (At label) tag f (tag_at d.inst label tag))
        tag-met label tag m t =
            flat-at (IsMet d) (λ k. steps_of_another (duty label k) (At label) k f (unwrap_or (slice_get (protocol_at d.inst label).tags k) no_tag)) (positions (protocol_at d.inst label).tags) tag
            (flat-at (IsMet d) (λ l. steps_of_others (duty l) (At l) f (protocol_at d.inst l)) (world_of d number).labels label each_met m)
            (has-position (protocol_at d.inst label).tags tag
            (subst (λ (p : Protocol). tag < length p.tags) (sym (ap (protocol_in d.inst) t.of ∙ ap (λ o. unwrap_or o no_protocol) t.there)) t.within))

        send-proved : (label tag : ℕ) (to : ℤ) (args : List ℤ) → IsEnabled d.inst state mover label tag to args → Meets d (world_of d number) state mover (Sending label tag to args) → KeptMet d number f whole vars label tag false → holds f names (after_step d.inst state mover (Sending label tag to args)) ≡ true
        send-proved label tag to args can meets k = go k.names k.count k.distinct k.new k.unbound k.valid
          where
            go : (taken : List ℕ) → length taken ≡ names_of_step d label tag false → AreDistinct taken → Each (λ name. has whole name ≡ false) taken → Each (λ name. has (bound_in (kept_sequent d proc vars f label tag false taken)) name ≡ false) taken
                → IsValid d.inst (kept_sequent d proc vars f label tag false taken) → holds f names (after_step d.inst state mover (Sending label tag to args)) ≡ true
            go [] count distinct new unbound valid = absurd (omega (count, arith))
            go (s ∷ []) count distinct new unbound valid = absurd (omega (count, arith))
            go (s ∷ t ∷ xs) count distinct new unbound valid = send-kept label tag to args can meets s t xs (omega (count, arith)) distinct new unbound valid

        receive-proved : (label id : ℕ) → IsReceivable d.inst state mover label id → KeptMet d number f whole vars label (message_in state label id).tag true → holds f names (after_step d.inst state mover (Receiving label id)) ≡ true
        receive-proved label id can k = go k.names k.count k.new k.unbound k.valid
          where
            go : (taken : List ℕ) → length taken ≡ names_of_step d label (message_in state label id).tag true → Each (λ name. has whole name ≡ false) taken → Each (λ name. has (bound_in (kept_sequent d proc vars f label (message_in state label id).tag true taken)) name ≡ false) taken
                → IsValid d.inst (kept_sequent d proc vars f label (message_in state label id).tag true taken) → holds f names (after_step d.inst state mover (Receiving label id)) ≡ true
            go [] count new unbound valid = absurd (omega (count, arith))
            go (r ∷ []) count new unbound valid = absurd (omega (count, arith))
            go (r ∷ j ∷ xs) count new unbound valid = receive-kept label (message_in state label id).tag id refl can r j xs new unbound valid

        send-step : (label tag : ℕ) (to : ℤ) (args : List ℤ) → has (world_of d number).labels label ≡ true → IsEnabled d.inst state mover label tag to args → Meets d (world_of d number) state mover (Sending label tag to args)
            → holds f names (after_step d.inst state mover (Sending label tag to args)) ≡ true
        send-step label tag to args m can meets = by_touch (is_touched (by_another (send_touch (At label) tag (tag_at d.inst label tag).send)) f) refl
          where
            by_touch : (b : Bool) → is_touched (by_another (send_touch (At label) tag (tag_at d.inst label tag).send)) f ≡ b → holds f names (after_step d.inst state mover (Sending label tag to args)) ≡ true
            by_touch true e = send-proved label tag to args can meets (met label tag false
                (if-there (IsMet d) (is_touched (by_another (send_touch (At label) tag (tag_at d.inst label tag).send)) f) (duty label tag false)
                (each-front (IsMet d) (if_touched (by_another (send_touch (At label) tag (tag_at d.inst label tag).send)) f (duty label tag false)) (receive_of_another (duty label tag true) (At label) tag f (tag_at d.inst label tag).receive)
                (tag-met label tag m (sent-there d.inst state mover label tag to args can))) e))
            by_touch false e = untouched label tag true (tag_at d.inst label tag).send (Sending label tag to args) refl refl e

        receive-step : (label id : ℕ) → has (world_of d number).labels label ≡ true → IsReceivable d.inst state mover label id → holds f names (after_step d.inst state mover (Receiving label id)) ≡ true
        receive-step label id m can =
            by_receive (tag_at d.inst label (message_in state label id).tag).receive refl
            (each-back (IsMet d) (if_touched (by_another (send_touch (At label) (message_in state label id).tag (tag_at d.inst label (message_in state label id).tag).send)) f (duty label (message_in state label id).tag false))
            (receive_of_another (duty label (message_in state label id).tag true) (At label) (message_in state label id).tag f (tag_at d.inst label (message_in state label id).tag).receive)
            (tag-met label (message_in state label id).tag m (received-there d.inst state mover label id can)))
          where
            by_touch : (t : Transition) (b : Bool) → t ≡ receive_at d.inst label (message_in state label id) → is_touched (by_another (receive_touch (At label) (message_in state label id).tag t)) f ≡ b
                → Each (IsMet d) (if_touched (by_another (receive_touch (At label) (message_in state label id).tag t)) f (duty label (message_in state label id).tag true)) → holds f names (after_step d.inst state mover (Receiving label id)) ≡ true
            by_touch t true same e h = receive-proved label id can (met label (message_in state label id).tag true (if-there (IsMet d) (is_touched (by_another (receive_touch (At label) (message_in state label id).tag t)) f) (duty label (message_in state label id).tag true) h e))
            by_touch t false same e h = untouched label (message_in state label id).tag false t (Receiving label id) (ap (λ (u : Transition). touch_at 0 label (message_in state label id).tag (fields_of u.updates) false true) (sym same)) refl e

            by_receive : (o : Option Transition) → (tag_at d.inst label (message_in state label id).tag).receive ≡ o → Each (IsMet d) (receive_of_another (duty label (message_in state label id).tag true) (At label) (message_in state label id).tag f o)
                → holds f names (after_step d.inst state mover (Receiving label id)) ≡ true
            by_receive None e h = absurd (false≢true (ap (λ q. holds (unwrap_or q never).guard (names_of_receive d.inst label (message_in state label id) mover) state) (sym e) ∙ can.guard))
            by_receive (Some t) e h = by_touch t (is_touched (by_another (receive_touch (At label) (message_in state label id).tag t)) f) (ap (λ q. unwrap_or q never) (sym e)) refl h

        pub step-kept : (step : Step) → has (world_of d number).labels (label_of_step step) ≡ true → CanStep d.inst state mover step → Meets d (world_of d number) state mover step → holds f names (after_step d.inst state mover step) ≡ true
        step-kept (Sending label tag to args) m can meets = send-step label tag to args m can meets
        step-kept (Receiving label id) m can meets = receive-step label id m can
