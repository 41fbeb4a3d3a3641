-- Each obligation, with names that it may take, is a clean sequent.
use Rattle.std.proofs.Common.{◌≡◌, ℕ, zero, suc, pos, ◌+◌, ◌<◌, ◌≤◌, Bool, true, false, not, ◌==◌, if◌then◌else◌, Option, Some, None, List, [], ◌∷◌, ◌++◌, map, take, filter, length, slice_get, unwrap_or, refl, ◌∙◌, ap, sym, subst, eq-eqb, arith}
use Rattle.std.specs.List.{AllByRecursion as Each, list_all, flat_map, range_with_len}
use Rattle.dl_term.specs.declared.syntax.Lab.{Lab}
use Rattle.dl_term.specs.declared.syntax.Lab.TheVariants.{Own, At}
use Rattle.dl_term.specs.declared.syntax.Part.{Part}
use Rattle.dl_term.specs.declared.syntax.Part.TheVariants.{Id, From, To, Live, Arg}
use Rattle.dl_term.specs.declared.syntax.Sort.{Sort}
use Rattle.dl_term.specs.declared.syntax.Term.{Term, Num, Var, Msg}
use Rattle.dl_term.specs.declared.syntax.Formula.{Formula, True}
use Rattle.dl_term.specs.Syntax.{opened}
use Rattle.dl_model.specs.declared.protocol.Update.{Update}
use Rattle.dl_model.specs.declared.protocol.Transition.{Transition}
use Rattle.dl_model.specs.declared.protocol.Tag.{Tag}
use Rattle.dl_model.specs.declared.protocol.Protocol.{Protocol}
use Rattle.dl_model.specs.declared.protocol.Instances.{Instances}
use Rattle.dl_model.specs.declared.sequent.Hypothesis.{Hypothesis}
use Rattle.dl_model.specs.declared.sequent.Sequent.{Sequent}
use Rattle.dl_model.specs.declared.file.World.{World}
use Rattle.dl_model.specs.declared.file.Invariant.{Invariant}
use Rattle.dl_model.specs.declared.file.Decls.{Decls}
use Rattle.dl_model.specs.Sorts.{has}
use Rattle.dl_model.specs.Lookup.{Parameter, protocol_in, protocol_at, no_protocol, no_tag, receive_of, arg_names, arg_sorts, world_at, hook_at}
use Rattle.dl_model.specs.Words.{me_word, to_word, from_word, first_name}
use Rattle.dl_model.specs.Scopes.{Scope, own_label, file_label, hook_label, protocol_found, FormulaIsKnown}
use Rattle.dl_model.specs.Spoken.{bound_names}
use Rattle.dl_model.specs.Formed.{AreDistinct, CoherenceIsFormed, WorldIsFormed, InstancesAreFormed, IsFormed, TagIsFormed, TransitionIsFormed}
use Rattle.dl_model.proofs.Small.{and-both, or-both, or-left, or-right, or-true-left, or-true-right, each-front, each-back, eqb-other}
use Rattle.dl_sequent.specs.Bounds.{bounds_of, lies_in, between, node_sort, field_sort}
use Rattle.dl_sequent.specs.Clean.{knows, is_told_apart, are_distinct, var_names, fact_names, IsClean}
use Rattle.dl_sequent.specs.declared.duty.Duty.{Duty}
use Rattle.dl_sequent.specs.declared.duty.Duty.TheVariants.{InitProtocol, InitInvariant, StepProtocol, StepInvariant}
use Rattle.dl_subst.specs.Substitution.{for_own, new_part}
use Rattle.dl_wp.specs.Steps.{Step, spoken_of, tag_in, seen, names_in_step, args_of_message, sent_message, send_step, receive_step}
use Rattle.dl_inv.specs.Joined.{is_true, nested, all_of}
use Rattle.dl_inv.specs.Steps.{called, send_by, receive_by, index_fits, value_fits, update_fits, all_fit, hook_seen, is_hook_of, all_hooks, is_mine, tag_of, send_hypotheses, receive_hypotheses}
use Rattle.dl_inv.specs.Facts.{coherence_fact, coherence_at, visible_in, facts_of, injects}
use Rattle.dl_inv.specs.Obligations.{with_sorts, send_known, send_sequent, receive_known, receive_sequent, coherence_of, self_fact, invariant_at, invariant_world, facts_with, hooks_fact, sequent_of}
use Rattle.dl_inv.specs.Duties.{if_touched, send_touch, receive_of_tag, receive_touch, steps_of_tag, positions, steps_of_tags, duties_with, duties_of_protocol, steps_at_label, duties_of_invariant, duties_of}
use Rattle.dl_inv.specs.Touched.{is_touched}
use Rattle.dl_inv.specs.Taken.{bound_in, MayTake}
use Rattle.dl_inv.proofs.Lists.{each-at, each-has, each-append, each-flat, each-kept, kept-at, each-take, each-found}
use Rattle.dl_inv.proofs.Bound.{bound-changed, bound-in-step, bound-before, all-lack, Lacks, facts-lack, goal-lacks, turned}
use Rattle.dl_inv.proofs.Told.{Inside, told-known}
use Rattle.dl_inv.proofs.StepTold.{IsWithin, named-has, StepWithin, value-known, before-told, in-step-told, labelled-told}
use Rattle.dl_inv.proofs.FirstTold.{first-told}
use Rattle.dl_inv.proofs.FactNames.{distinct-is, distinct-join, facts-distinct, facts-large}
use Rattle.dl_inv.proofs.FormedParts.{tag-formed, receive-formed, hook-local, coherence-known}

-- these names, and no messages
abbrev closed_scope : (Lab → Option Protocol) → Scope
closed_scope spoken = record { protocol = spoken; variables = []; messages = [] }

all-each : {X : Type 0} (p : X → Bool) (xs : List X) → Each (λ x. p x ≡ true) xs → list_all p xs ≡ true
all-each p [] h = refl
all-each p (x ∷ xs) h = and-both (p x) (list_all p xs) h.0 (all-each p xs h.1)

each-swap : {X : Type 0} (Q : ℕ → Type 0) (P : ℕ → X → Type 0) (xs : List X) → ((y : ℕ) → Q y → Each (P y) xs) → Each (λ x. (y : ℕ) → Q y → P y x) xs
each-swap Q P [] h = tt
each-swap Q P (x ∷ xs) h = ((λ y q. (h y q).0), each-swap Q P xs (λ y q. (h y q).1))

each-apply : {X : Type 0} (A B : X → Type 0) (xs : List X) → Each (λ x. A x → B x) xs → Each A xs → Each B xs
each-apply A B [] h k = tt
each-apply A B (x ∷ xs) h k = (h.0 k.0, each-apply A B xs h.1 k.1)

-- ---- joined formulas

module _ (vs ks : List ℕ) where
  abbrev IsTold : Formula → Type 0
  IsTold f = is_told_apart vs ks f ≡ true

  nested-told : (fs : List Formula) → Each IsTold fs → IsTold (nested fs)
  unfolding opened
  nested-told [] h = refl
  nested-told (f ∷ []) h = h.0
  nested-told (f ∷ g ∷ fs) h = and-both _ _ h.0 (nested-told (g ∷ fs) h.1)

  keep-first : (b : Bool) (f : Formula) (fs : List Formula) → IsTold f → Each IsTold fs → Each IsTold (if b then f ∷ fs else fs)
  keep-first true f fs h k = (h, k)
  keep-first false f fs h k = k

  kept-told : (fs : List Formula) → Each IsTold fs → Each IsTold (filter (λ f. not (is_true f)) fs)
  kept-told [] h = tt
  kept-told (f ∷ fs) h = keep-first (not (is_true f)) f (filter (λ g. not (is_true g)) fs) h.0 (kept-told fs h.1)

  pub all-told : (fs : List Formula) → Each IsTold fs → IsTold (all_of fs)
  all-told fs h = nested-told (filter (λ f. not (is_true f)) fs) (kept-told fs h)

  pub between-told : (b : Bool) (sort : Sort) (t : Term) → knows vs ks t ≡ true → IsTold (if b then True else between sort t)
  unfolding opened
  between-told true sort t h = refl
  between-told false sort t h = and-both _ _ h (and-both _ _ h refl)

  -- ---- what updates must fit

  module _ (inst : Instances) (known : Sequent) (step : Step) (within : StepWithin vs ks step) where
    seen-here : (t : Term) → knows vs ks (seen step t) ≡ true
    seen-here t = value-known vs ks step within t vs ks (λ n m. m) (λ n m. m)

    index-told : (o : Option Term) → Each IsTold (index_fits inst known step o)
    index-told (Some t) = (between-told (lies_in (bounds_of inst known (seen step t)) (node_sort inst.nodes)) (node_sort inst.nodes) (seen step t) (seen-here t), tt)
    index-told None = tt

    value-told : (t : Term) (o : Option Sort) → Each IsTold (value_fits inst known step t o)
    value-told t (Some sort) = (between-told (lies_in (bounds_of inst known (seen step t)) sort) sort (seen step t) (seen-here t), tt)
    value-told t None = tt

    updates-told : (o : Option Protocol) (us : List Update) → Each (λ u. Each IsTold (update_fits inst known step o u)) us
    updates-told o [] = tt
    updates-told o (u ∷ us) = (each-append IsTold (index_fits inst known step u.index) (value_fits inst known step u.value (field_sort o u.field)) (index-told u.index) (value-told u.value (field_sort o u.field)), updates-told o us)

    pub fits-told : (o : Option Protocol) (us : List Update) → IsTold (all_fit inst known step o us)
    fits-told o us = all-told (flat_map (update_fits inst known step o) us) (each-flat IsTold (update_fits inst known step o) us (updates-told o us))

-- ---- formulas without names

module _ (vs ks names : List ℕ) (among : (y : ℕ) → has names y ≡ false → (has vs y ≡ false) × (has ks y ≡ false)) where
  -- where none of the names is bound in the hypothesis, it tells its names apart
  abbrev Tells : Hypothesis → Type 0
  Tells h = ((y : ℕ) → has names y ≡ true → Lacks y h) → is_told_apart vs ks h.formula ≡ true

  closed-inside : (spoken : Lab → Option Protocol) (bound : List ℕ) → ((y : ℕ) → has names y ≡ true → has bound y ≡ false) → Inside (closed_scope spoken) vs ks bound
  closed-inside spoken bound lacks = record {
    variables = λ x m. cc;
    messages_in = λ m h. cc;
    apart = λ y p q m. among y (turned bound names lacks y m);
  }

  closed-told : (spoken : Lab → Option Protocol) (f : Formula) → FormulaIsKnown (closed_scope spoken) f → ((y : ℕ) → has names y ≡ true → has (bound_names f) y ≡ false) → is_told_apart vs ks f ≡ true
  closed-told spoken f h lacks = told-known f (closed_scope spoken) vs ks h (closed-inside spoken (bound_names f) lacks)

  module _ (d : Decls) (formed : IsFormed d) where
    coherence-tells : (label : ℕ) (c : Option Formula) → (protocol_at d.inst label).coherence ≡ c → Each Tells (coherence_fact d label c)
    coherence-tells label None e = tt
    coherence-tells label (Some f) e =
        let k = coherence-known d.inst formed.inst label f e in
        ((λ lacks. labelled-told label f vs ks (closed-told (own_label k.0) f k.1 (λ y m. ap (λ bound. has bound y) (sym (bound-changed (for_own label) f)) ∙ lacks y m))), tt)

    invariant-tells : (i : ℕ) (invariant : Invariant) → slice_get d.invariants i ≡ Some invariant → Tells (called invariant.sym invariant.formula)
    invariant-tells i invariant e lacks = closed-told (file_label d.inst) invariant.formula (formed.invariants i invariant e).formula.0 lacks

    visible-tells : (i : ℕ) (invariant : Invariant) (b : Bool) → slice_get d.invariants i ≡ Some invariant → Each Tells (if b then called invariant.sym invariant.formula ∷ [] else [])
    visible-tells i invariant true e = (invariant-tells i invariant e, tt)
    visible-tells i invariant false e = tt

    facts-tell : (i : ℕ) (invariant : Invariant) → slice_get d.invariants i ≡ Some invariant → (world : World) → Each Tells (facts_of d i world ++ called invariant.sym invariant.formula ∷ [])
    facts-tell i invariant e world = each-append Tells (facts_of d i world) (called invariant.sym invariant.formula ∷ [])
        (each-append Tells (flat_map (coherence_at d) world.labels) (flat_map (visible_in d world) (take i d.invariants))
        (each-flat Tells (coherence_at d) world.labels (each-has (λ label. Each Tells (coherence_at d label)) world.labels (λ label m. coherence-tells label (protocol_at d.inst label).coherence refl)))
        (each-flat Tells (visible_in d world) (take i d.invariants) (each-take (λ v. Each Tells (visible_in d world v)) d.invariants i (λ j v l f. visible-tells j v (injects d (world_at d v.world) world) f))))
        (invariant-tells i invariant e, tt)

-- ---- a formula of a step, over what is given to it

given-told : (spoken : Lab → Option Protocol) (given : List ℕ) (f : Formula) → FormulaIsKnown (record { protocol = spoken; variables = given; messages = [] }) f → is_told_apart given [] f ≡ true
given-told spoken given f h = told-known f (record { protocol = spoken; variables = given; messages = [] }) given [] h (record { variables = λ x m. m; messages_in = λ m k. k; apart = λ y p q m. (p, q) })

-- ---- the terms of the two steps

first-in : (s : ℕ) (ns : List ℕ) → has (s ∷ ns) s ≡ true
first-in s ns = or-true-left (s == s) (has ns s) (eq-eqb s s refl)

vars-within : (vs ks xs : List ℕ) → ((x : ℕ) → has xs x ≡ true → has vs x ≡ true) → Each (IsWithin vs ks) (map (λ x. Var x) xs)
vars-within vs ks [] h = tt
vars-within vs ks (x ∷ xs) h = ((λ vars messages p q. p x (h x (first-in x xs))), vars-within vs ks xs (λ y m. h y (or-true-right (y == x) (has xs y) m)))

pub get-within : (vs ks : List ℕ) (terms : List Term) (k : ℕ) → Each (IsWithin vs ks) terms → IsWithin vs ks (unwrap_or (slice_get terms k) (Num (pos 0)))
get-within vs ks [] k h = λ vars messages p q. refl
get-within vs ks (t ∷ ts) zero h = h.0
get-within vs ks (t ∷ ts) (suc k) h = get-within vs ks ts k h.1

send-named : (s d : ℕ) (xs syms : List ℕ) (x : ℕ) → IsWithin (s ∷ d ∷ xs) [] (names_in_step (Var s) to_word (Var d) syms (map (λ k. Var k) xs) x)
send-named s d xs syms x = named-has (IsWithin (s ∷ d ∷ xs) []) (Var s) to_word (Var d) syms (map (λ k. Var k) xs) x
    (λ vars messages p q. p s (first-in s (d ∷ xs))) (λ vars messages p q. p d (or-true-right (d == s) (has (d ∷ xs) d) (first-in d xs))) (λ vars messages p q. refl)
    (vars-within (s ∷ d ∷ xs) [] xs (λ y m. or-true-right (y == s) (has (d ∷ xs) y) (or-true-right (y == d) (has xs y) m)))

send-within : (inst : Instances) (own : Option ℕ) (label : Lab) (tag s d : ℕ) (xs : List ℕ) → StepWithin (s ∷ d ∷ xs) [] (send_step inst own (send_by label tag (s ∷ d ∷ xs)))
send-within inst own label tag s d xs = record {
  node = λ vars messages p q. p s (first-in s (d ∷ xs));
  named = send-named s d xs (arg_names (tag_in (spoken_of inst own label) tag).args);
  move = part-within;
}
  where
    part-within : (part : Part) → IsWithin (s ∷ d ∷ xs) [] (new_part (sent_message (send_by label tag (s ∷ d ∷ xs))) part)
    part-within Id = λ vars messages p q. refl
    part-within From = λ vars messages p q. p s (first-in s (d ∷ xs))
    part-within To = λ vars messages p q. p d (or-true-right (d == s) (has (d ∷ xs) d) (first-in d xs))
    part-within Live = λ vars messages p q. refl
    part-within (Arg k) = get-within (s ∷ d ∷ xs) [] (map (λ k. Var k) xs) k (vars-within (s ∷ d ∷ xs) [] xs (λ y m. or-true-right (y == s) (has (d ∷ xs) y) (or-true-right (y == d) (has xs y) m)))

receive-within : (inst : Instances) (own : Option ℕ) (label : Lab) (tag r k : ℕ) → StepWithin (r ∷ []) (k ∷ []) (receive_step inst own (receive_by label tag (r ∷ k ∷ [])))
receive-within inst own label tag r k = record {
  node = λ vars messages p q. p r (first-in r []);
  named = λ x. named-has (IsWithin (r ∷ []) (k ∷ [])) (Var r) from_word (Msg k From) (arg_names (tag_in (spoken_of inst own label) tag).args) (args_of_message k) x
      (λ vars messages p q. p r (first-in r [])) part (λ vars messages p q. refl) (part, (part, (part, (part, (part, (part, (part, (part, tt))))))));
  move = first-in k [];
}
  where
    part : (vars messages : List ℕ) → ((n : ℕ) → has (r ∷ []) n ≡ true → has vars n ≡ true) → ((n : ℕ) → has (k ∷ []) n ≡ true → has messages n ≡ true) → has messages k ≡ true
    part vars messages p q = q k (first-in k [])

-- what is not among the two names is neither of them
receiver-or-message : (r k y : ℕ) → has (r ∷ k ∷ []) y ≡ false → (has (r ∷ []) y ≡ false) × (has (k ∷ []) y ≡ false)
receiver-or-message r k y e = (or-both (y == r) false (or-left (y == r) (has (k ∷ []) y) e) refl, or-right (y == r) (has (k ∷ []) y) e)

-- ---- sequents of steps

pub names-of-sorts : (xs : List ℕ) (sorts : List Sort) → length xs ≡ length sorts → map (λ (v : Parameter). v.0) (with_sorts xs sorts) ≡ xs
names-of-sorts [] sorts e = refl
names-of-sorts (x ∷ xs) [] e = absurd (omega (e, arith))
names-of-sorts (x ∷ xs) (sort ∷ sorts) e = ap (λ ys. x ∷ ys) (names-of-sorts xs sorts (omega (e, arith)))

pub map-length : (args : List Parameter) → length (arg_sorts args) ≡ length args
map-length [] = refl
map-length (a ∷ args) = ap suc (map-length args)

fact-names-join : (xs ys : List Hypothesis) → map (λ (h : Hypothesis). h.name) (xs ++ ys) ≡ map (λ (h : Hypothesis). h.name) xs ++ map (λ (h : Hypothesis). h.name) ys
fact-names-join [] ys = refl
fact-names-join (x ∷ xs) ys = ap (λ zs. x.name ∷ zs) (fact-names-join xs ys)

-- facts of distinct names, none of them a word, and then hypotheses of the step, whose names are words
facts-and-words : (xs ys : List Hypothesis) → AreDistinct (map (λ (h : Hypothesis). h.name) xs) → AreDistinct (map (λ (h : Hypothesis). h.name) ys)
    → ((n : ℕ) → has (map (λ (h : Hypothesis). h.name) xs) n ≡ true → has (map (λ (h : Hypothesis). h.name) ys) n ≡ false) → are_distinct (map (λ (h : Hypothesis). h.name) (xs ++ ys)) ≡ true
facts-and-words xs ys h k d = distinct-is (map (λ (h : Hypothesis). h.name) (xs ++ ys)) (subst AreDistinct (sym (fact-names-join xs ys)) (distinct-join (map (λ (h : Hypothesis). h.name) xs) (map (λ (h : Hypothesis). h.name) ys) h k d))

module _ (inst : Instances) (own : Option ℕ) (lab : Lab) (tag p : ℕ) (protocol : Protocol) (is : spoken_of inst own lab ≡ Some protocol) (there : slice_get inst.protocols p ≡ Some protocol) (formed : InstancesAreFormed inst) where
  abbrev declared : Tag
  declared = tag_of inst own lab tag

  formed-tag : TagIsFormed protocol declared
  formed-tag = subst (λ o. TagIsFormed protocol (tag_in o tag)) (sym is) (tag-formed inst p protocol tag formed there)

  -- ---- a send

  module _ (s d : ℕ) (xs : List ℕ) (count : length xs ≡ length declared.args) (distinct : AreDistinct (s ∷ d ∷ xs)) (before hooks : List Hypothesis) (f : Formula)
      (unbound : Each (λ name. has (bound_in (send_sequent inst own lab tag (s ∷ d ∷ xs) before hooks f)) name ≡ false) (s ∷ d ∷ xs)) where
    abbrev ns : List ℕ
    ns = s ∷ d ∷ xs

    abbrev sequent : Sequent
    sequent = send_sequent inst own lab tag ns before hooks f

    abbrev hypotheses : List Hypothesis
    hypotheses = send_hypotheses inst (send_known inst own lab tag ns) (send_by lab tag ns)

    variables-are : var_names sequent ≡ ns
    variables-are = names-of-sorts ns (node_sort inst.nodes ∷ node_sort inst.nodes ∷ arg_sorts declared.args) (let e = map-length declared.args in omega (count, e, arith))

    lacking : (y : ℕ) → has ns y ≡ true → has (bound_in sequent) y ≡ false
    lacking y m = each-at (λ name. has (bound_in sequent) name ≡ false) ns y unbound m

    facts-lacking : (y : ℕ) → has ns y ≡ true → Each (Lacks y) (before ++ (hypotheses ++ hooks))
    facts-lacking y m = facts-lack sequent y (lacking y m)

    step-lacking : (y : ℕ) → has ns y ≡ true → Each (Lacks y) (hypotheses ++ hooks)
    step-lacking y m = each-back (Lacks y) before (hypotheses ++ hooks) (facts-lacking y m)

    guard-lacking : (y : ℕ) → has ns y ≡ true → has (bound_names declared.send.guard) y ≡ false
    guard-lacking y m = ap (λ bound. has bound y) (sym (bound-in-step lab (Var s) to_word (Var d) (arg_names declared.args) (map (λ k. Var k) xs) declared.send.guard)) ∙ (step-lacking y m).0

    hypotheses-told : Each (λ (h : Hypothesis). is_told_apart ns [] h.formula ≡ true) hypotheses
    hypotheses-told = (
      in-step-told lab to_word (arg_names declared.args) (names_in_step (Var s) to_word (Var d) (arg_names declared.args) (map (λ k. Var k) xs)) ns [] (bound_names declared.send.guard) (send-named s d xs (arg_names declared.args))
          declared.send.guard (λ y m. m) (λ y m. (turned (bound_names declared.send.guard) ns guard-lacking y m, refl))
          (given-told (own_label protocol) (me_word ∷ to_word ∷ arg_names declared.args) declared.send.guard formed-tag.send.guard.0.0),
      (fits-told ns [] inst (send_known inst own lab tag ns) (send_step inst own (send_by lab tag ns)) (send-within inst own lab tag s d xs) (spoken_of inst own lab) declared.send.updates, tt),
    )

    goal-told : (scope : Lab → Option Protocol) → FormulaIsKnown (closed_scope scope) f → is_told_apart ns [] sequent.goal ≡ true
    goal-told scope h = before-told ns [] (send_step inst own (send_by lab tag ns)) (send-within inst own lab tag s d xs) f (closed_scope scope) (λ m. false) ns [] h
        (closed-inside ns [] ns (λ y e. (e, refl)) scope (bound_names f) (λ y m. sym (bound-before (send_step inst own (send_by lab tag ns)) (λ m. false) f y) ∙ goal-lacks sequent y (lacking y m)))
        (record { variables = λ n m. m; messages_in = λ n m. m })

    send-clean : (scope : Lab → Option Protocol) → FormulaIsKnown (closed_scope scope) f → are_distinct (fact_names sequent) ≡ true → Each (Tells ns [] ns (λ y e. (e, refl))) before
        → Each (λ (h : Hypothesis). is_told_apart ns [] h.formula ≡ true) hooks → IsClean sequent
    send-clean scope h named facts hooked = and-both _ _
        (and-both _ _ (ap (λ ys. are_distinct (ys ++ [])) variables-are ∙ ap are_distinct (append-nothing ns) ∙ distinct-is ns distinct) named)
        (and-both _ _
        (ap (λ ys. list_all (λ (h : Hypothesis). is_told_apart ys [] h.formula) sequent.facts) variables-are
        ∙ all-each (λ (h : Hypothesis). is_told_apart ns [] h.formula) sequent.facts
        (each-append (λ (h : Hypothesis). is_told_apart ns [] h.formula ≡ true) before (hypotheses ++ hooks)
        (each-apply (λ h. (y : ℕ) → has ns y ≡ true → Lacks y h) (λ (h : Hypothesis). is_told_apart ns [] h.formula ≡ true) before facts
        (each-swap (λ y. has ns y ≡ true) Lacks before (λ y m. each-front (Lacks y) before (hypotheses ++ hooks) (facts-lacking y m))))
        (each-append (λ (h : Hypothesis). is_told_apart ns [] h.formula ≡ true) hypotheses hooks hypotheses-told hooked)))
        (ap (λ ys. is_told_apart ys [] sequent.goal) variables-are ∙ goal-told scope h))
      where
        append-nothing : (zs : List ℕ) → (zs ++ []) ≡ zs
        append-nothing [] = refl
        append-nothing (z ∷ zs) = ap (λ ws. z ∷ ws) (append-nothing zs)

  -- ---- a receive

  formed-receive : TransitionIsFormed protocol (me_word ∷ from_word ∷ arg_names declared.args) (receive_of declared)
  formed-receive = receive-formed protocol (me_word ∷ from_word ∷ arg_names declared.args) declared.receive formed-tag.receive

  module _ (r k : ℕ) (apart : has (k ∷ []) r ≡ false) (before : List Hypothesis) (f : Formula)
      (unbound : Each (λ name. has (bound_in (receive_sequent inst own lab tag (r ∷ k ∷ []) before f)) name ≡ false) (r ∷ k ∷ [])) where
    abbrev rs : List ℕ
    rs = r ∷ k ∷ []

    abbrev taken : Sequent
    taken = receive_sequent inst own lab tag rs before f

    abbrev conditions : List Hypothesis
    conditions = receive_hypotheses inst (receive_known inst own lab tag rs) (receive_by lab tag rs)

    without : (y : ℕ) → has rs y ≡ true → has (bound_in taken) y ≡ false
    without y m = each-at (λ name. has (bound_in taken) name ≡ false) rs y unbound m

    taken-facts : (y : ℕ) → has rs y ≡ true → Each (Lacks y) (before ++ conditions)
    taken-facts y m = facts-lack taken y (without y m)

    guard-without : (y : ℕ) → has rs y ≡ true → has (bound_names (receive_of declared).guard) y ≡ false
    guard-without y m = ap (λ bound. has bound y) (sym (bound-in-step lab (Var r) from_word (Msg k From) (arg_names declared.args) (args_of_message k) (receive_of declared).guard)) ∙ (each-back (Lacks y) before conditions (taken-facts y m)).1.0

    mine-told : is_told_apart (r ∷ []) (k ∷ []) (is_mine (receive_by lab tag rs)) ≡ true
    unfolding opened
    mine-told = and-both _ _ (and-both _ _ (first-in k []) (first-in r [])) (and-both _ _ (first-in k []) refl)

    conditions-told : Each (λ (h : Hypothesis). is_told_apart (r ∷ []) (k ∷ []) h.formula ≡ true) conditions
    conditions-told = (
      mine-told,
      (
        in-step-told lab from_word (arg_names declared.args) (names_in_step (Var r) from_word (Msg k From) (arg_names declared.args) (args_of_message k)) (r ∷ []) (k ∷ []) (bound_names (receive_of declared).guard)
            (receive-within inst own lab tag r k).named (receive_of declared).guard (λ y m. m) (λ y m. receiver-or-message r k y (turned (bound_names (receive_of declared).guard) rs guard-without y m))
            (given-told (own_label protocol) (me_word ∷ from_word ∷ arg_names declared.args) (receive_of declared).guard formed-receive.guard.0.0),
        (fits-told (r ∷ []) (k ∷ []) inst (receive_known inst own lab tag rs) (receive_step inst own (receive_by lab tag rs)) (receive-within inst own lab tag r k) (spoken_of inst own lab) (receive_of declared).updates, tt),
      ),
    )

    taken-goal : (scope : Lab → Option Protocol) → FormulaIsKnown (closed_scope scope) f → is_told_apart (r ∷ []) (k ∷ []) taken.goal ≡ true
    taken-goal scope h = before-told (r ∷ []) (k ∷ []) (receive_step inst own (receive_by lab tag rs)) (receive-within inst own lab tag r k) f (closed_scope scope) (λ m. false) (r ∷ []) (k ∷ []) h
        (closed-inside (r ∷ []) (k ∷ []) rs (receiver-or-message r k) scope (bound_names f) (λ y m. sym (bound-before (receive_step inst own (receive_by lab tag rs)) (λ m. false) f y) ∙ goal-lacks taken y (without y m)))
        (record { variables = λ n m. m; messages_in = λ n m. m })

    receive-clean : (scope : Lab → Option Protocol) → FormulaIsKnown (closed_scope scope) f → are_distinct (fact_names taken) ≡ true → Each (Tells (r ∷ []) (k ∷ []) rs (receiver-or-message r k)) before → IsClean taken
    receive-clean scope h named facts = and-both _ _
        (and-both _ _ (distinct-is rs (apart, (refl, tt))) named)
        (and-both _ _
        (all-each (λ (h : Hypothesis). is_told_apart (r ∷ []) (k ∷ []) h.formula) taken.facts
        (each-append (λ (h : Hypothesis). is_told_apart (r ∷ []) (k ∷ []) h.formula ≡ true) before conditions
        (each-apply (λ h. (y : ℕ) → has rs y ≡ true → Lacks y h) (λ (h : Hypothesis). is_told_apart (r ∷ []) (k ∷ []) h.formula ≡ true) before facts
        (each-swap (λ y. has rs y ≡ true) Lacks before (λ y m. each-front (Lacks y) before conditions (taken-facts y m))))
        conditions-told))
        (taken-goal scope h))

-- ---- the hooks of a send

module _ (d : Decls) (formed : IsFormed d) (world : World) (label tag s t : ℕ) (xs : List ℕ) where
  hooks-told : ((y : ℕ) → has (s ∷ t ∷ xs) y ≡ true → has (bound_names (all_hooks d world label tag (send_by (At label) tag (s ∷ t ∷ xs)))) y ≡ false)
      → is_told_apart (s ∷ t ∷ xs) [] (all_hooks d world label tag (send_by (At label) tag (s ∷ t ∷ xs))) ≡ true
  hooks-told lacks = all-told (s ∷ t ∷ xs) [] (map (λ hook. hook_seen (send_by (At label) tag (s ∷ t ∷ xs)) (hook_at d hook)) (filter (is_hook_of d label tag) world.hooks))
      (each-kept (λ f. is_told_apart (s ∷ t ∷ xs) [] f ≡ true) (λ hook. hook_seen (send_by (At label) tag (s ∷ t ∷ xs)) (hook_at d hook)) (is_hook_of d label tag) world.hooks told)
    where
      hook-lacks : (hook : ℕ) → has world.hooks hook ≡ true → is_hook_of d label tag hook ≡ true → (y : ℕ) → has (s ∷ t ∷ xs) y ≡ true → has (bound_names (hook_at d hook).formula) y ≡ false
      hook-lacks hook m q y there =
          ap (λ bound. has bound y) (sym (bound-in-step (At label) (Var s) to_word (Var t) (hook_at d hook).args (map (λ x. Var x) xs) (hook_at d hook).formula))
          ∙ kept-at (λ f. has (bound_names f) y ≡ false) (λ hook. hook_seen (send_by (At label) tag (s ∷ t ∷ xs)) (hook_at d hook)) (is_hook_of d label tag) world.hooks hook
          (all-lack (map (λ hook. hook_seen (send_by (At label) tag (s ∷ t ∷ xs)) (hook_at d hook)) (filter (is_hook_of d label tag) world.hooks)) y (lacks y there)) m q

      told : (hook : ℕ) → has world.hooks hook ≡ true → is_hook_of d label tag hook ≡ true → is_told_apart (s ∷ t ∷ xs) [] (hook_seen (send_by (At label) tag (s ∷ t ∷ xs)) (hook_at d hook)) ≡ true
      told hook m q =
          in-step-told (At label) to_word (hook_at d hook).args (names_in_step (Var s) to_word (Var t) (hook_at d hook).args (map (λ k. Var k) xs)) (s ∷ t ∷ xs) [] (bound_names (hook_at d hook).formula)
          (send-named s t xs (hook_at d hook).args) (hook_at d hook).formula (λ y b. b) (λ y b. (turned (bound_names (hook_at d hook).formula) (s ∷ t ∷ xs) (hook-lacks hook m q) y b, refl))
          (given-told (hook_label d.inst (hook_at d hook)) (me_word ∷ to_word ∷ (hook_at d hook).args) (hook_at d hook).formula (hook-local d formed hook).0.0)

-- ---- all obligations

-- clean with all names that it may take
abbrev IsCleanFor : Decls → Duty → Type 0
IsCleanFor d duty = (names : List ℕ) → MayTake d duty names → IsClean (sequent_of d duty names)

clean-if : (d : Decls) (b : Bool) (duty : Duty) → IsCleanFor d duty → Each (IsCleanFor d) (if b then duty ∷ [] else [])
clean-if d true duty h = (h, tt)
clean-if d false duty h = tt

each-range : (P : ℕ → Type 0) (n a : ℕ) → ((k : ℕ) → k < a + n → P k) → Each P (range_with_len a n)
each-range P zero a h = tt
each-range P (suc n) a h = (h a (omega arith), each-range P n (a + 1) (λ k l. h k (omega (l, arith))))

pub each-position : {X : Type 0} (P : ℕ → Type 0) (xs : List X) → ((k : ℕ) → k < length xs → P k) → Each P (positions xs)
each-position P xs h = each-range P (length xs) 0 (λ k l. h k (omega (l, arith)))

found-at : {X : Type 0} (xs : List X) (k : ℕ) → k < length xs → (x : X) × (slice_get xs k ≡ Some x)
found-at [] k h = absurd (omega (h, arith))
found-at (x ∷ xs) zero h = (x, refl)
found-at (x ∷ xs) (suc k) h = found-at xs k (omega (h, arith))

module _ (d : Decls) (formed : IsFormed d) where
  receive-of-tag : (duty : Duty) (label : Lab) (tag : ℕ) (f : Formula) (o : Option Transition) → IsCleanFor d duty → Each (IsCleanFor d) (receive_of_tag duty label tag f o)
  receive-of-tag duty label tag f (Some t) h = clean-if d (is_touched (receive_touch label tag t) f) duty h
  receive-of-tag duty label tag f None h = tt

  steps-of-tag : (duty : Bool → Duty) (label : Lab) (tag : ℕ) (f : Formula) (t : Tag) → IsCleanFor d (duty false) → IsCleanFor d (duty true) → Each (IsCleanFor d) (steps_of_tag duty label tag f t)
  steps-of-tag duty label tag f t sent received =
      each-append (IsCleanFor d) (if_touched (send_touch label tag t.send) f (duty false)) (receive_of_tag (duty true) label tag f t.receive)
      (clean-if d (is_touched (send_touch label tag t.send) f) (duty false) sent) (receive-of-tag (duty true) label tag f t.receive received)

  steps-of-tags : (duty : ℕ → Bool → Duty) (label : Lab) (f : Formula) (protocol : Protocol) → ((tag : ℕ) → IsCleanFor d (duty tag false)) → ((tag : ℕ) → IsCleanFor d (duty tag true)) → Each (IsCleanFor d) (steps_of_tags duty label f protocol)
  steps-of-tags duty label f protocol sent received = each-flat (IsCleanFor d) (λ tag. steps_of_tag (duty tag) label tag f (unwrap_or (slice_get protocol.tags tag) no_tag)) (positions protocol.tags)
      (each-position (λ tag. Each (IsCleanFor d) (steps_of_tag (duty tag) label tag f (unwrap_or (slice_get protocol.tags tag) no_tag))) protocol.tags
      (λ tag l. steps-of-tag (duty tag) label tag f (unwrap_or (slice_get protocol.tags tag) no_tag) (sent tag) (received tag)))

  -- ---- protocols

  module _ (p : ℕ) (protocol : Protocol) (there : slice_get d.inst.protocols p ≡ Some protocol) (has_coherence : (protocol_in d.inst (Some p)).coherence ≡ Some (coherence_of d.inst p)) where
    abbrev F : Formula
    F = coherence_of d.inst p

    known : FormulaIsKnown (closed_scope (own_label protocol)) F
    known = (subst (CoherenceIsFormed protocol) (ap (λ (o : Option Protocol). (unwrap_or o no_protocol).coherence) (sym there) ∙ has_coherence) (formed.inst.protocols p protocol there).coherence).0

    init-clean : IsCleanFor d (InitProtocol p)
    init-clean names may = first-told d.inst (Some p) F (closed_scope (own_label protocol)) [] [] known (record { variables = λ x m. cc; messages_in = λ m h. cc; apart = λ y h k m. (refl, refl) })

    sent-clean : (tag : ℕ) → IsCleanFor d (StepProtocol p tag false)
    sent-clean tag [] may = absurd (let e = may.count in omega (e, arith))
    sent-clean tag (s ∷ []) may = absurd (let e = may.count in omega (e, arith))
    sent-clean tag (s ∷ t ∷ xs) may =
        send-clean d.inst (Some p) Own tag p protocol there there formed.inst s t xs (let e = may.count in omega (e, arith)) may.distinct (self_fact d.inst p) [] F may.unbound
        (own_label protocol) known refl ((λ lacks. closed-told (s ∷ t ∷ xs) [] (s ∷ t ∷ xs) (λ y e. (e, refl)) (own_label protocol) F known lacks), tt) tt

    received-clean : (tag : ℕ) → IsCleanFor d (StepProtocol p tag true)
    received-clean tag [] may = absurd (let e = may.count in omega (e, arith))
    received-clean tag (r ∷ []) may = absurd (let e = may.count in omega (e, arith))
    received-clean tag (r ∷ k ∷ x ∷ xs) may = absurd (let e = may.count in omega (e, arith))
    received-clean tag (r ∷ k ∷ []) may =
        receive-clean d.inst (Some p) Own tag p protocol there there formed.inst r k may.distinct.0 (self_fact d.inst p) F may.unbound
        (own_label protocol) known refl ((λ lacks. closed-told (r ∷ []) (k ∷ []) (r ∷ k ∷ []) (receiver-or-message r k) (own_label protocol) F known lacks), tt)

    protocol-clean : Each (IsCleanFor d) (duties_with d p (Some F))
    protocol-clean = (init-clean, steps-of-tags (StepProtocol p) Own F (protocol_in d.inst (Some p)) sent-clean received-clean)

  with-coherence : (p : ℕ) (protocol : Protocol) (c : Option Formula) → slice_get d.inst.protocols p ≡ Some protocol → (protocol_in d.inst (Some p)).coherence ≡ c → Each (IsCleanFor d) (duties_with d p c)
  with-coherence p protocol None e f = tt
  with-coherence p protocol (Some c) e f =
      let same : coherence_of d.inst p ≡ c = ap (λ o. unwrap_or o True) f in
      subst (λ k. Each (IsCleanFor d) (duties_with d p (Some k))) same (protocol-clean p protocol e (f ∙ ap Some (sym same)))

  -- ---- invariants

  module _ (i : ℕ) (invariant : Invariant) (is : slice_get d.invariants i ≡ Some invariant) where
    abbrev V : Invariant
    V = invariant_at d i

    abbrev world : World
    world = invariant_world d i

    same-invariant : V ≡ invariant
    same-invariant = ap (λ o. unwrap_or o (record { sym = 0; world = 0; formula = True })) is

    is-there : slice_get d.invariants i ≡ Some V
    is-there = is ∙ ap Some (sym same-invariant)

    closed-invariant : FormulaIsKnown (closed_scope (file_label d.inst)) V.formula
    closed-invariant = (formed.invariants i V is-there).formula.0

    world-formed : WorldIsFormed d world
    world-formed =
        let w = found-at d.worlds V.world (formed.invariants i V is-there).world in
        subst (WorldIsFormed d) (sym (ap (λ o. unwrap_or o (record { sym = 0; labels = []; hooks = [] })) w.1)) (each-found (WorldIsFormed d) d.worlds V.world w.0 formed.worlds w.1)

    first-clean : IsCleanFor d (InitInvariant i)
    first-clean names may = first-told d.inst None V.formula (closed_scope (file_label d.inst)) [] [] closed-invariant (record { variables = λ x m. cc; messages_in = λ m h. cc; apart = λ y h k m. (refl, refl) })

    no-word : (n : ℕ) (words : List ℕ) → Each (λ w. w < first_name) words → first_name ≤ n → has words n ≡ false
    no-word n [] h l = refl
    no-word n (w ∷ words) h l = or-both (n == w) (has words n) (eqb-other n w (λ e. let b = h.0 in omega (b, l, e, arith))) (no-word n words h.1 l)

    module _ (label : ℕ) (m : has world.labels label ≡ true) where
      label-there : label < length d.inst.of
      label-there = each-at (λ l. l < length d.inst.of) world.labels label world-formed.labels m

      number : (p : ℕ) × (slice_get d.inst.of label ≡ Some p)
      number = found-at d.inst.of label label-there

      protocol-there : (protocol : Protocol) × (slice_get d.inst.protocols number.0 ≡ Some protocol)
      protocol-there = found-at d.inst.protocols number.0 (each-found (λ p. p < length d.inst.protocols) d.inst.of label number.0 formed.inst.labels number.1)

      spoken : spoken_of d.inst None (At label) ≡ Some protocol-there.0
      spoken = ap (protocol_found d.inst) number.1 ∙ protocol-there.1

      step-sent : (tag : ℕ) → IsCleanFor d (StepInvariant i label tag false)
      step-sent tag [] may = absurd (let e = may.count in omega (e, arith))
      step-sent tag (s ∷ []) may = absurd (let e = may.count in omega (e, arith))
      step-sent tag (s ∷ t ∷ xs) may =
          let count : length xs ≡ length (tag_of d.inst None (At label) tag).args = (let e = may.count in omega (e, arith)) in
          send-clean d.inst None (At label) tag number.0 protocol-there.0 spoken protocol-there.1 formed.inst s t xs count may.distinct (facts_with d i) (hooks_fact d world label tag (s ∷ t ∷ xs)) V.formula may.unbound
          (file_label d.inst) closed-invariant
          (facts-and-words (facts_with d i) (send_hypotheses d.inst (send_known d.inst None (At label) tag (s ∷ t ∷ xs)) (send_by (At label) tag (s ∷ t ∷ xs)) ++ hooks_fact d world label tag (s ∷ t ∷ xs))
          (facts-distinct d formed world world-formed i V is-there) (refl, (refl, (refl, tt)))
          (λ n h. no-word n (10 ∷ 11 ∷ 12 ∷ []) (omega arith, (omega arith, (omega arith, tt))) (facts-large d formed world world-formed i V is-there n h)))
          (facts-tell (s ∷ t ∷ xs) [] (s ∷ t ∷ xs) (λ y e. (e, refl)) d formed i V is-there world) (
            hooks-told d formed world label tag s t xs (λ y h. (each-back (Lacks y) (send_hypotheses d.inst (send_known d.inst None (At label) tag (s ∷ t ∷ xs)) (send_by (At label) tag (s ∷ t ∷ xs))) (hooks_fact d world label tag (s ∷ t ∷ xs))
                (step-lacking d.inst None (At label) tag number.0 protocol-there.0 spoken protocol-there.1 formed.inst s t xs count may.distinct (facts_with d i) (hooks_fact d world label tag (s ∷ t ∷ xs)) V.formula may.unbound y h)).0),
            tt,
          )

      step-received : (tag : ℕ) → IsCleanFor d (StepInvariant i label tag true)
      step-received tag [] may = absurd (let e = may.count in omega (e, arith))
      step-received tag (r ∷ []) may = absurd (let e = may.count in omega (e, arith))
      step-received tag (r ∷ k ∷ x ∷ xs) may = absurd (let e = may.count in omega (e, arith))
      step-received tag (r ∷ k ∷ []) may =
          receive-clean d.inst None (At label) tag number.0 protocol-there.0 spoken protocol-there.1 formed.inst r k may.distinct.0 (facts_with d i) V.formula may.unbound
          (file_label d.inst) closed-invariant
          (facts-and-words (facts_with d i) (receive_hypotheses d.inst (receive_known d.inst None (At label) tag (r ∷ k ∷ [])) (receive_by (At label) tag (r ∷ k ∷ [])))
          (facts-distinct d formed world world-formed i V is-there) (refl, (refl, (refl, tt)))
          (λ n h. no-word n (13 ∷ 10 ∷ 11 ∷ []) (omega arith, (omega arith, (omega arith, tt))) (facts-large d formed world world-formed i V is-there n h)))
          (facts-tell (r ∷ []) (k ∷ []) (r ∷ k ∷ []) (receiver-or-message r k) d formed i V is-there world)

    invariant-clean : Each (IsCleanFor d) (duties_of_invariant d i)
    invariant-clean = (
      first-clean,
      each-flat (IsCleanFor d) (steps_at_label d i) world.labels
          (each-has (λ label. Each (IsCleanFor d) (steps_at_label d i label)) world.labels (λ label m. steps-of-tags (StepInvariant i label) (At label) V.formula (protocol_at d.inst label) (step-sent label m) (step-received label m))),
    )

  pub obligations-clean : Each (IsCleanFor d) (duties_of d)
  obligations-clean = each-append (IsCleanFor d) (flat_map (duties_of_protocol d) (positions d.inst.protocols)) (flat_map (duties_of_invariant d) (positions d.invariants))
      (each-flat (IsCleanFor d) (duties_of_protocol d) (positions d.inst.protocols) (each-position (λ p. Each (IsCleanFor d) (duties_of_protocol d p)) d.inst.protocols
      (λ p l. let f = found-at d.inst.protocols p l in with-coherence p f.0 (protocol_in d.inst (Some p)).coherence f.1 refl)))
      (each-flat (IsCleanFor d) (duties_of_invariant d) (positions d.invariants) (each-position (λ i. Each (IsCleanFor d) (duties_of_invariant d i)) d.invariants
      (λ i l. let f = found-at d.invariants i l in invariant-clean i f.0 f.1)))
