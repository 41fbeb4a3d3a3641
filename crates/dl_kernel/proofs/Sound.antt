-- Each rule is sound: a sequent is valid where all that the rule leaves is.
use Rattle.std.proofs.Common.{◌≡◌, ◌<◌, ◌-ℤ◌, ℕ, zero, suc, ℤ, pos, ◌≤ℤ◌, ◌<ℤ◌, int_le, int_lt, T, Bool, true, false, not, ◌&&◌, ◌||◌, ◌==◌, if◌then◌else◌, List, [], ◌∷◌, map, length, slice_get, Option, Some, None, is_none, IfSome, refl, sym, ◌∙◌, ap, subst, eq-eqb, eqb-true, le-leb, lt-ltb, arith}
use Rattle.std.proofs.lemmas.Int.{ints, by_lt_z}
use Rattle.std.proofs.lemmas.Bool.Decides.{Decides-int_eq}
use Rattle.std.proofs.lemmas.List.Elements.{All-nil, All-cons}
use Rattle.std.specs.Ordering.{int_eq}
use Rattle.std.specs.Option.{option_map, option_and_then}
use Rattle.std.specs.List.{AllByRecursion as Each, list_all, list_any}
use Rattle.dl_term.specs.declared.syntax.Lab.{Lab}
use Rattle.dl_term.specs.declared.syntax.Lab.TheVariants.{Own, At}
use Rattle.dl_term.specs.declared.syntax.Part.TheVariants.{Id, From, To, Live, Arg}
use Rattle.dl_term.specs.declared.syntax.Term.{Term, Num, Var, Len, Msg}
use Rattle.dl_term.specs.declared.syntax.Formula.{Formula, Eq, Lt, Le, Not, Not', And, more_of-Formula as one, end_of-Formula as end}
use Rattle.dl_term.specs.Syntax.{opened}
use Rattle.dl_term.specs.State.{Message as StoredMessage, part_of as part_stored, State, soup_at, message_at, tag_of, part_at}
use Rattle.dl_term.specs.Names.{Names, Meant, Stored, with_number, with_message as with_meaning, label_of}
use Rattle.dl_term.specs.Meaning.{value, holds, part_in, every_message, some_message, IsMessageOf}
use Rattle.dl_term.specs.Measures.{is_free_variable, is_free_message, is_free}
use Rattle.dl_term.proofs.Agree.{holds-agree}
use Rattle.dl_term.proofs.Choices.{not-chosen}
use Rattle.dl_term.proofs.Quantifiers.{every_below-all, every_below-at, some_below-found, some_below-true, implied, implies-true, both-true, and-true}
use Rattle.dl_subst.specs.Change.{captures}
use Rattle.dl_subst.specs.Substitution.{for_variable, for_message, for_term, substituted, message_substituted, replaced}
use Rattle.dl_subst.proofs.Whole.{holds-substituted, holds-replaced}
use Rattle.dl_model.specs.declared.protocol.Instances.{Instances}
use Rattle.dl_model.specs.declared.sequent.Hypothesis.{Hypothesis}
use Rattle.dl_model.specs.declared.sequent.Sequent.{Sequent}
use Rattle.dl_model.specs.Sorts.{in_sort, has}
use Rattle.dl_model.specs.Lookup.{Parameter}
use Rattle.dl_model.specs.Spoken.{bound_names}
use Rattle.dl_model.specs.States.{IsWellSorted}
use Rattle.dl_model.specs.Formed.{InstancesAreFormed}
use Rattle.dl_model.specs.Sequents.{message_label, StandsForMessage, Fits, FactsHold, IsValidAt}
use Rattle.dl_linear.specs.declared.certificate.Certificate.{Certificate}
use Rattle.dl_linear.specs.Rows.{verdict}
use Rattle.dl_linear.specs.Forms.{Sides, sides_of, below, lines_from, are_narrow, SidesHold, AllHold, value_at}
use Rattle.dl_linear.proofs.Sound.{no-solution}
use Rattle.dl_linear.proofs.LineLemmas.{sides-say, lines-say}
use Rattle.dl_sequent.specs.declared.script.Given.{Given}
use Rattle.dl_sequent.specs.declared.script.Rule.{Rule}
use Rattle.dl_sequent.specs.declared.script.Rule.TheBlock as r
use Rattle.dl_sequent.specs.Clean.{knows, var_names, message_names, mentions, is_clean, is_new}
use Rattle.dl_sequent.specs.Bounds.{Declared, message_of, written_label, node_sort, bounds_of, is_node_term, between}
use Rattle.dl_sequent.specs.Grounds.{IsGrounded, IsOwn}
use Rattle.dl_sequent.proofs.Bounded.{bounds-sound, node-term-sound, message-stands}
use Rattle.dl_kernel.specs.declared.parts.Two.{Two}
use Rattle.dl_kernel.specs.declared.parts.Equation.{Equation}
use Rattle.dl_kernel.specs.declared.parts.Quantified.{Quantified}
use Rattle.dl_kernel.specs.declared.parts.Quantified.TheVariants.{Nodes, Messages}
use Rattle.dl_kernel.specs.Parts.{as_equation, as_denied, as_and, as_or, as_implication, as_universal, as_existential}
use Rattle.dl_kernel.specs.Reduced.{reduced}
use Rattle.dl_kernel.specs.Lines.{goal_word, uses, numbered, if_used, rows_used, refutes, denied_sides, linear_closes}
use Rattle.dl_kernel.specs.Steps.{with_fact, with_goal, with_variable, with_message, fact_of, part_of, one_left, split_goal, pick_goal, intro_goal, parts_of_fact, cases_of_fact, apply_fact, parts_of, put_node, put_message, label_number, with_new, at_new, put_in, enter, given_node, given_message, is_allowed, at_node, is_message_of, at_message as at_given, instance, target, put_fact, put_target, id_of, are_alike, are_one, put_term, put_id, rewrite_by, reduce_by, id_range, range_of, left_by, only_clean, after}
use Rattle.dl_kernel.proofs.Says.{equation-says, denied-says, and-says, or-says, implication-says, universal-says, existential-says, universal-free, existential-free}
use Rattle.dl_kernel.proofs.ReduceLemmas.{holds-reduced}
use Rattle.dl_kernel.proofs.ReadLemmas.{holds-message_put}
use Rattle.dl_kernel.proofs.SoundLemmas.{AllValid, by_case, or-either, and-left, and-right, of-not, not-of, or-false, clash, or-true, each-push, goal-fits, fact-fits, push-fact, then-found, map-found, fact-is, fact-true, closed, by-sound, close-sound}

module _ (inst : Instances) (own : ℕ) where
  abbrev V : Sequent → Type 0
  V s = IsValidAt inst s own

  split-sound : (s : Sequent) (o : Option Two) → as_and s.goal ≡ o → AllValid inst own (split_goal s o) → V s
  split-sound s None e h state names sorted fits facts = absurd h
  split-sound s (Some two) e h state names sorted fits facts =
      let a = h.0 state names sorted (goal-fits s two.left own state names fits) facts in
      let b = h.1.0 state names sorted (goal-fits s two.right own state names fits) facts in
      and-says s.goal two names state e ∙ (λ i. a i && b i)

  pick-sound : (s : Sequent) (part : ℕ) (o : Option Two) → as_or s.goal ≡ o → AllValid inst own (pick_goal s part o) → V s
  pick-sound s part None e h state names sorted fits facts = absurd h
  pick-sound s part (Some two) e h state names sorted fits facts = by_part (part == 1) (part == 2) h
    where
      by_part : (first second : Bool) → AllValid inst own (if first then Some (with_goal s two.left ∷ []) else if second then Some (with_goal s two.right ∷ []) else None) → holds s.goal names state ≡ true
      by_part true second h =
          or-says s.goal two names state e ∙ ap (λ b. b || holds two.right names state) (h.0 state names sorted (goal-fits s two.left own state names fits) facts)
      by_part false true h =
          or-says s.goal two names state e ∙ ap (λ b. holds two.left names state || b) (h.0 state names sorted (goal-fits s two.right own state names fits) facts) ∙ or-true (holds two.left names state)
      by_part false false h = absurd h

  intro-sound : (s : Sequent) (name : ℕ) (o : Option Two) → as_implication s.goal ≡ o → AllValid inst own (intro_goal s name o) → V s
  intro-sound s name None e h state names sorted fits facts = absurd h
  intro-sound s name (Some two) e h state names sorted fits facts =
      implication-says s.goal two names state e
      ∙ implies-true _ _ (λ here. h.0 state names sorted (fact-fits (with_goal s two.right) name two.left own state names (goal-fits s two.right own state names fits)) (push-fact (with_goal s two.right) state names name two.left facts here))

  parts-sound : (s : Sequent) (hyp left right : ℕ) (o : Option Two) → part_of as_and s hyp ≡ o → AllValid inst own (parts_of_fact s left right o) → V s
  parts-sound s hyp left right None e h state names sorted fits facts = absurd h
  parts-sound s hyp left right (Some two) e h state names sorted fits facts =
      let f = then-found (fact_of s hyp) as_and two e in
      let both = sym (and-says f.0 two names state f.2) ∙ fact-true s.facts hyp f.0 state names f.1 facts in
      let s' = with_fact s left two.left in
      h.0 state names sorted (fact-fits s' right two.right own state names (fact-fits s left two.left own state names fits))
      (push-fact s' state names right two.right (push-fact s state names left two.left facts (and-left _ _ both)) (and-right _ _ both))

  cases-sound : (s : Sequent) (hyp name : ℕ) (o : Option Two) → part_of as_or s hyp ≡ o → AllValid inst own (cases_of_fact s name o) → V s
  cases-sound s hyp name None e h state names sorted fits facts = absurd h
  cases-sound s hyp name (Some two) e h state names sorted fits facts =
      let f = then-found (fact_of s hyp) as_or two e in
      let either = sym (or-says f.0 two names state f.2) ∙ fact-true s.facts hyp f.0 state names f.1 facts in
      or-either _ _ _ either
      (λ here. h.0 state names sorted (fact-fits s name two.left own state names fits) (push-fact s state names name two.left facts here))
      (λ here. h.1.0 state names sorted (fact-fits s name two.right own state names fits) (push-fact s state names name two.right facts here))

  apply-sound : (s : Sequent) (hyp name : ℕ) (o : Option Two) → part_of as_implication s hyp ≡ o → AllValid inst own (apply_fact s name o) → V s
  apply-sound s hyp name None e h state names sorted fits facts = absurd h
  apply-sound s hyp name (Some two) e h state names sorted fits facts =
      let f = then-found (fact_of s hyp) as_implication two e in
      let follows = sym (implication-says f.0 two names state f.2) ∙ fact-true s.facts hyp f.0 state names f.1 facts in
      let left = h.0 state names sorted (goal-fits s two.left own state names fits) facts in
      h.1.0 state names sorted (fact-fits s name two.right own state names fits) (push-fact s state names name two.right facts (implied _ _ follows left))

  have-sound : (s : Sequent) (f : Formula) (name : ℕ) → AllValid inst own (Some (with_goal s f ∷ with_fact s name f ∷ [])) → V s
  have-sound s f name h state names sorted fits facts =
      let here = h.0 state names sorted (goal-fits s f own state names fits) facts in
      h.1.0 state names sorted (fact-fits s name f own state names fits) (push-fact s state names name f facts here)

  decide-sound : (s : Sequent) (f : Formula) (name : ℕ) → AllValid inst own (Some (with_fact s name f ∷ with_fact s name (Not f) ∷ [])) → V s
  unfolding opened
  decide-sound s f name h state names sorted fits facts =
      by_case (holds f names state) _
      (λ here. h.0 state names sorted (fact-fits s name f own state names fits) (push-fact s state names name f facts here))
      (λ here. h.1.0 state names sorted (fact-fits s name (Not f) own state names fits) (push-fact s state names name (Not f) facts (not-of _ here)))

  -- one sequent with a formula that a test gives
  left-one : (put : Formula → Sequent) (o : Option Formula) → AllValid inst own (one_left (option_map put o)) → (f : Formula) × (o ≡ Some f) × V (put f)
  left-one put None h = absurd h
  left-one put (Some f) h = (f, refl, h.0)

  -- ---- new names

  has-not : {X : Type 0} (name_of : X → ℕ) (xs : List X) (x : ℕ) → has (map name_of xs) x ≡ false → Each (λ y. (name_of y == x) ≡ false) xs
  has-not name_of [] x h = tt
  has-not name_of (y ∷ ys) x h = let each = or-false (x == name_of y) (has (map name_of ys) x) h in (sym-eqb (name_of y) x ∙ each.0, has-not name_of ys x each.1)
    where
      sym-eqb : (x y : ℕ) → (x == y) ≡ (y == x)
      sym-eqb x y = grind arith

  facts-not : (x : ℕ) (hs : List Hypothesis) → list_any (λ (h : Hypothesis). mentions h.formula x) hs ≡ false → Each (λ (h : Hypothesis). mentions h.formula x ≡ false) hs
  facts-not x [] h = tt
  facts-not x (f ∷ fs) h = let each = or-false (mentions f.formula x) (list_any (λ (h : Hypothesis). mentions h.formula x) fs) h in (each.0, facts-not x fs each.1)

  -- the name stands nowhere in the sequent
  pub record IsFresh (s : Sequent) (x : ℕ) : Type 0 where
    pub vars : Each (λ (v : Parameter). (v.0 == x) ≡ false) s.vars
    pub messages : Each (λ (m : Declared). (m.0 == x) ≡ false) s.messages
    pub facts : Each (λ (h : Hypothesis). mentions h.formula x ≡ false) s.facts
    pub goal : mentions s.goal x ≡ false

  fresh : (s : Sequent) (x : ℕ) → is_new s x ≡ true → IsFresh s x
  fresh s x h =
      let unknown = and-left (not (has (var_names s) x) && not (has (message_names s) x)) _ h in
      let absent = of-not _ (and-right (not (has (var_names s) x) && not (has (message_names s) x)) (not (list_any (λ (h : Hypothesis). mentions h.formula x) s.facts || mentions s.goal x)) h) in
      let each = or-false (list_any (λ (h : Hypothesis). mentions h.formula x) s.facts) (mentions s.goal x) absent in
      record {
        vars = has-not (λ (v : Parameter). v.0) s.vars x (of-not _ (and-left (not (has (var_names s) x)) (not (has (message_names s) x)) unknown));
        messages = has-not (λ (m : Declared). m.0) s.messages x (of-not _ (and-right (not (has (var_names s) x)) (not (has (message_names s) x)) unknown));
        facts = facts-not x s.facts each.0;
        goal = each.1;
      }

  free-of : (f : Formula) (x : ℕ) → mentions f x ≡ false → (is_free_variable f x ≡ false) × (is_free_message f x ≡ false)
  free-of f x h = let each = or-false (is_free f x) (has (bound_names f) x) h in or-false (is_free_variable f x) (is_free_message f x) each.0

  node-fits : (nodes k : ℕ) → k < nodes → in_sort (node_sort nodes) (pos k) ≡ true
  node-fits nodes k lt =
      let below_end : pos k ≤ℤ (pos nodes -ℤ pos 1) = omega (arith, ints) in
      and-true _ _ (le-leb 0 k (omega arith)) (test _ below_end.le)
    where
      test : (b : Bool) → T b → b ≡ true
      test true h = refl
      test false h = absurd h

  variables-with : (vars : List Parameter) (x : ℕ) (v : ℤ) (names : Names) → Each (λ (u : Parameter). (u.0 == x) ≡ false) vars → Each (λ (u : Parameter). in_sort u.1 (names.number u.0) ≡ true) vars → Each (λ (u : Parameter). in_sort u.1 ((with_number names x v).number u.0) ≡ true) vars
  variables-with [] x v names new h = tt
  variables-with (u ∷ us) x v names new h = (ap (λ t. in_sort u.1 (if t then v else names.number u.0)) new.0 ∙ h.0, variables-with us x v names new.1 h.1)

  messages-with : (ms : List Declared) (x : ℕ) (new : Meant) (state : State) (names : Names) → Each (λ (m : Declared). (m.0 == x) ≡ false) ms → Each (λ (m : Declared). StandsForMessage state names m.0 (message_label own m.1) m.2) ms → Each (λ (m : Declared). StandsForMessage state (with_meaning names x new) m.0 (message_label own m.1) m.2) ms
  messages-with [] x new state names fresh h = tt
  messages-with (m ∷ ms) x new state names fresh h =
      ((h.0.0, ap (λ t. if t then Some new else names.message m.0) fresh.0 ∙ h.0.1, h.0.2), messages-with ms x new state names fresh.1 h.1)

  variable-added : (s : Sequent) (x k : ℕ) (state : State) (names : Names) → IsFresh s x → k < inst.nodes → Fits s own state names → Fits (with_variable s x (node_sort inst.nodes)) own state (with_number names x (pos k))
  variable-added s x k state names new lt fits = record {
    own_label = fits.own_label;
    variables = each-push (λ (u : Parameter). in_sort u.1 ((with_number names x (pos k)).number u.0) ≡ true) s.vars (x, node_sort inst.nodes)
        (variables-with s.vars x (pos k) names new.vars fits.variables)
        (ap (λ t. in_sort (node_sort inst.nodes) (if t then pos k else names.number x)) (eq-eqb x x refl) ∙ node-fits inst.nodes k lt);
    messages = fits.messages;
  }

  message-added : (s : Sequent) (x label tag id : ℕ) (state : State) (names : Names) → IsFresh s x → IsMessageOf state (message_label own label) tag id → Fits s own state names → Fits (with_message s x label tag) own state (with_meaning names x (Stored (message_label own label) id))
  message-added s x label tag id state names new this fits = record {
    own_label = fits.own_label;
    variables = fits.variables;
    messages = each-push (λ (m : Declared). StandsForMessage state (with_meaning names x (Stored (message_label own label) id)) m.0 (message_label own m.1) m.2) s.messages (x, label, tag)
        (messages-with s.messages x (Stored (message_label own label) id) state names new.messages fits.messages)
        (id, ap (λ t. if t then Some (Stored (message_label own label) id) else names.message x) (eq-eqb x x refl), this);
  }

  skip-number : (f : Formula) (x : ℕ) (v : ℤ) (names : Names) (state : State) → is_free_variable f x ≡ false → holds f (with_number names x v) state ≡ holds f names state
  skip-number f x v names state none =
      holds-agree f (with_number names x v) names state (record {
        own = refl;
        number = λ z free. not-chosen (z == x) v (names.number z) (λ same. let there = subst (λ n. is_free_variable f n ≡ true) (eqb-true z x same) free in (cc));
        message = λ z free. refl;
      })

  skip-meaning : (f : Formula) (x : ℕ) (new : Meant) (names : Names) (state : State) → is_free_message f x ≡ false → holds f (with_meaning names x new) state ≡ holds f names state
  skip-meaning f x new names state none =
      holds-agree f (with_meaning names x new) names state (record {
        own = refl;
        number = λ z free. refl;
        message = λ z free. not-chosen (z == x) (Some new) (names.message z) (λ same. let there = subst (λ n. is_free_message f n ≡ true) (eqb-true z x same) free in (cc));
      })

  facts-with-variable : (hs : List Hypothesis) (x : ℕ) (v : ℤ) (state : State) (names : Names) → Each (λ (h : Hypothesis). mentions h.formula x ≡ false) hs → FactsHold hs names state → FactsHold hs (with_number names x v) state
  facts-with-variable [] x v state names new all = tt
  facts-with-variable (h ∷ hs) x v state names new all = (skip-number h.formula x v names state (free-of h.formula x new.0).0 ∙ all.0, facts-with-variable hs x v state names new.1 all.1)

  facts-with-message : (hs : List Hypothesis) (x : ℕ) (new : Meant) (state : State) (names : Names) → Each (λ (h : Hypothesis). mentions h.formula x ≡ false) hs → FactsHold hs names state → FactsHold hs (with_meaning names x new) state
  facts-with-message [] x new state names is_new all = tt
  facts-with-message (h ∷ hs) x new state names is_new all = (skip-meaning h.formula x new names state (free-of h.formula x is_new.0).1 ∙ all.0, facts-with-message hs x new state names is_new.1 all.1)

  again : {X : Type 0} (zq zx free : Bool) (new o : X) → free ≡ true → (zx ≡ true → zq ≡ false → free ≡ false) → (if zq then new else if zx then new else o) ≡ (if zq then new else o)
  again true zx free new o is h = refl
  again false true free new o is h = let none = h refl refl in (cc)
  again false false free new o is h = refl

  and-false : (a b : Bool) → (a && b) ≡ false → a ≡ true → b ≡ false
  and-false true b h e = h
  and-false false b h e = cc

  sym-eqb : (x y : ℕ) → (x == y) ≡ (y == x)
  sym-eqb x y = grind arith

  other : (x z : ℕ) → (z == x) ≡ false → not (x == z) ≡ true
  other x z h = ap not (sym-eqb x z ∙ h)

  -- a new variable, or message, for the one that a quantifier binds
  number-renamed : (f : Formula) (q x : ℕ) (k : ℤ) (names : Names) (state : State) → (not (q == x) && is_free_variable f x) ≡ false → holds f (with_number (with_number names x k) q k) state ≡ holds f (with_number names q k) state
  number-renamed f q x k names state closed =
      holds-agree f (with_number (with_number names x k) q k) (with_number names q k) state (record {
        own = refl;
        number = λ z free. again (z == q) (z == x) (is_free_variable f z) k (names.number z) free
            (λ zx zq. let is : z ≡ x = eqb-true z x zx in and-false (not (q == z)) (is_free_variable f z) (subst (λ n. (not (q == n) && is_free_variable f n) ≡ false) (sym is) closed) (other q z zq));
        message = λ z free. refl;
      })

  meaning-renamed : (f : Formula) (q x : ℕ) (new : Meant) (names : Names) (state : State) → (not (q == x) && is_free_message f x) ≡ false → holds f (with_meaning (with_meaning names x new) q new) state ≡ holds f (with_meaning names q new) state
  meaning-renamed f q x new names state closed =
      holds-agree f (with_meaning (with_meaning names x new) q new) (with_meaning names q new) state (record {
        own = refl;
        number = λ z free. refl;
        message = λ z free. again (z == q) (z == x) (is_free_message f z) (Some new) (names.message z) free
            (λ zx zq. let is : z ≡ x = eqb-true z x zx in and-false (not (q == z)) (is_free_message f z) (subst (λ n. (not (q == n) && is_free_message f n) ≡ false) (sym is) closed) (other q z zq));
      })

  -- what a quantified formula says at a new variable, or at a new message
  new-variable : (y x k : ℕ) (body f : Formula) (names : Names) (state : State) → put_node y body (Var x) ≡ Some f → (not (y == x) && is_free_variable body x) ≡ false → holds f (with_number names x (pos k)) state ≡ holds body (with_number names y (pos k)) state
  new-variable y x k body f names state e closed = by_test (captures (for_variable y (Var x)) body) refl e
    where
      by_test : (test : Bool) → captures (for_variable y (Var x)) body ≡ test → (if test then None else Some (substituted body y (Var x))) ≡ Some f → holds f (with_number names x (pos k)) state ≡ holds body (with_number names y (pos k)) state
      by_test true c e = cc
      by_test false c e =
          let is : substituted body y (Var x) ≡ f = cc in
          ap (λ g. holds g (with_number names x (pos k)) state) (sym is)
          ∙ holds-substituted body y (Var x) (with_number names x (pos k)) state c
          ∙ ap (λ n. holds body (with_number (with_number names x (pos k)) y n) state) (ap (λ t. if t then pos k else names.number x) (eq-eqb x x refl))
          ∙ number-renamed body y x (pos k) names state closed

  new-message : (m x label id : ℕ) (body f : Formula) (names : Names) (state : State) → InstancesAreFormed inst → IsWellSorted inst state → put_message m body x ≡ Some f → (not (m == x) && is_free_message body x) ≡ false
      → holds f (with_meaning names x (Stored label id)) state ≡ holds body (with_meaning names m (Stored label id)) state
  new-message m x label id body f names state formed sorted e closed = by_test (captures (for_message m (parts_of x)) body) refl e
    where
      by_test : (test : Bool) → captures (for_message m (parts_of x)) body ≡ test → (if test then None else Some (message_substituted body m (parts_of x))) ≡ Some f → holds f (with_meaning names x (Stored label id)) state ≡ holds body (with_meaning names m (Stored label id)) state
      by_test true c e = cc
      by_test false c e =
          let is : message_substituted body m (parts_of x) ≡ f = cc in
          ap (λ g. holds g (with_meaning names x (Stored label id)) state) (sym is)
          ∙ holds-message_put inst body m x label id (with_meaning names x (Stored label id)) state formed sorted c (ap (λ t. if t then Some (Stored label id) else names.message x) (eq-eqb x x refl))
          ∙ meaning-renamed body m x (Stored label id) names state closed

  -- the label that a formula writes, by the number that a sequent writes
  number-is : (lab : Lab) (number : ℕ) → label_number lab ≡ Some number → message_label own number ≡ label_of own lab
  number-is Own number e = let is : 255 ≡ number = cc in ap (message_label own) (sym is)
  number-is (At label) number e = by_test (label == 255) refl e
    where
      by_test : (test : Bool) → (label == 255) ≡ test → (if test then None else Some label) ≡ Some number → message_label own number ≡ label
      by_test true t e = cc
      by_test false t e = let is : label ≡ number = cc in ap (message_label own) (sym is) ∙ ap (λ test. if test then own else label) t

  -- ---- a goal for each thing, and a hypothesis for some

  open-node : (s : Sequent) (x y : ℕ) (body f : Formula) → is_new s x ≡ true → as_universal s.goal ≡ Some (Nodes y body) → put_node y body (Var x) ≡ Some f → V (with_goal (with_variable s x (node_sort inst.nodes)) f) → V s
  open-node s x y body f n e made v state names sorted fits facts =
      let new = fresh s x n in
      let free = free-of s.goal x new.goal in
      let shut = universal-free s.goal (Nodes y body) x e free.0 free.1 in
      universal-says s.goal (Nodes y body) names state e
      ∙ every_below-all state.nodes _ (λ k lt.
      let k_below : k < inst.nodes = rw (← sorted.nodes) lt in
      sym (new-variable y x k body f names state made shut)
      ∙ v state (with_number names x (pos k)) sorted
      (goal-fits (with_variable s x (node_sort inst.nodes)) f own state (with_number names x (pos k)) (variable-added s x k state names new k_below fits))
      (facts-with-variable s.facts x (pos k) state names new.facts facts))

  open-message : (s : Sequent) (x m : ℕ) (lab : Lab) (tag number : ℕ) (body f : Formula) → InstancesAreFormed inst → is_new s x ≡ true → as_universal s.goal ≡ Some (Messages m lab tag body) → label_number lab ≡ Some number → put_message m body x ≡ Some f
      → V (with_goal (with_message s x number tag) f) → V s
  open-message s x m lab tag number body f formed n e l made v state names sorted fits facts =
      let new = fresh s x n in
      let free = free-of s.goal x new.goal in
      let shut = universal-free s.goal (Messages m lab tag body) x e free.0 free.1 in
      let place : message_label own number ≡ label_of names.own lab = number-is lab number l ∙ ap (λ o. label_of o lab) (sym fits.own_label) in
      universal-says s.goal (Messages m lab tag body) names state e
      ∙ ap (λ l. every_message state l tag (λ id. holds body (with_meaning names m (Stored l id)) state)) (sym place)
      ∙ every_below-all _ _ (λ id lt. implies-true _ _ (λ same.
      sym (new-message m x (message_label own number) id body f names state formed sorted made shut)
      ∙ v state (with_meaning names x (Stored (message_label own number) id)) sorted
      (goal-fits (with_message s x number tag) f own state (with_meaning names x (Stored (message_label own number) id)) (message-added s x number tag id state names new (lt, eqb-true _ _ same) fits))
      (facts-with-message s.facts x (Stored (message_label own number) id) state names new.facts facts)))

  absent-in : (s : Sequent) (hyp : ℕ) (f : Formula) (x : ℕ) → fact_of s hyp ≡ Some f → IsFresh s x → mentions f x ≡ false
  absent-in s hyp f x e new = fact-is s.facts hyp f (λ g. mentions g x ≡ false) e new.facts

  unpack-node : (s : Sequent) (hyp x name y : ℕ) (body f : Formula) → is_new s x ≡ true → part_of as_existential s hyp ≡ Some (Nodes y body) → put_node y body (Var x) ≡ Some f → V (with_fact (with_variable s x (node_sort inst.nodes)) name f) → V s
  unpack-node s hyp x name y body f n e made v state names sorted fits facts =
      let new = fresh s x n in
      let g = then-found (fact_of s hyp) as_existential (Nodes y body) e in
      let free = free-of g.0 x (absent-in s hyp g.0 x g.1 new) in
      let shut = existential-free g.0 (Nodes y body) x g.2 free.0 free.1 in
      let found = some_below-found state.nodes _ (sym (existential-says g.0 (Nodes y body) names state g.2) ∙ fact-true s.facts hyp g.0 state names g.1 facts) in
      let k_below : found.0 < inst.nodes = rw (← sorted.nodes) found.1 in
      let names' = with_number names x (pos found.0) in
      let there = variable-added s x found.0 state names new k_below fits in
      let s' = with_variable s x (node_sort inst.nodes) in
      sym (skip-number s.goal x (pos found.0) names state (free-of s.goal x new.goal).0)
      ∙ v state names' sorted (fact-fits s' name f own state names' there)
      (push-fact s' state names' name f (facts-with-variable s.facts x (pos found.0) state names new.facts facts) (new-variable y x found.0 body f names state made shut ∙ found.2))

  unpack-message : (s : Sequent) (hyp x name m : ℕ) (lab : Lab) (tag number : ℕ) (body f : Formula) → InstancesAreFormed inst → is_new s x ≡ true → part_of as_existential s hyp ≡ Some (Messages m lab tag body) → label_number lab ≡ Some number → put_message m body x ≡ Some f
      → V (with_fact (with_message s x number tag) name f) → V s
  unpack-message s hyp x name m lab tag number body f formed n e l made v state names sorted fits facts =
      let new = fresh s x n in
      let g = then-found (fact_of s hyp) as_existential (Messages m lab tag body) e in
      let free = free-of g.0 x (absent-in s hyp g.0 x g.1 new) in
      let shut = existential-free g.0 (Messages m lab tag body) x g.2 free.0 free.1 in
      let place : message_label own number ≡ label_of names.own lab = number-is lab number l ∙ ap (λ o. label_of o lab) (sym fits.own_label) in
      let holds_there = ap (λ l. some_message state l tag (λ id. holds body (with_meaning names m (Stored l id)) state)) place ∙ sym (existential-says g.0 (Messages m lab tag body) names state g.2) ∙ fact-true s.facts hyp g.0 state names g.1 facts in
      let found = some_below-found (length (soup_at state (message_label own number))) (λ id. (tag_of (message_at state (message_label own number) id) == tag) && holds body (with_meaning names m (Stored (message_label own number) id)) state) holds_there in
      let parts = both-true _ _ found.2 in
      let new_one = Stored (message_label own number) found.0 in
      let names' = with_meaning names x new_one in
      let there = message-added s x number tag found.0 state names new (found.1, eqb-true _ _ parts.0) fits in
      let s' = with_message s x number tag in
      sym (skip-meaning s.goal x new_one names state (free-of s.goal x new.goal).1)
      ∙ v state names' sorted (fact-fits s' name f own state names' there)
      (push-fact s' state names' name f (facts-with-message s.facts x new_one state names new.facts facts) (new-message m x (message_label own number) found.0 body f names state formed sorted made shut ∙ parts.1))

  -- what a rule that enters a quantifier leaves
  abbrev Enters : (Sequent → Formula → Sequent) → Sequent → ℕ → Quantified → Type 0
  Enters put s x (Nodes y body) = (f : Formula) × (put_node y body (Var x) ≡ Some f) × V (put (with_variable s x (node_sort inst.nodes)) f)
  Enters put s x (Messages m lab tag body) = (number : ℕ) × (f : Formula) × (label_number lab ≡ Some number) × (put_message m body x ≡ Some f) × V (put (with_message s x number tag) f)

  entered : (put : Sequent → Formula → Sequent) (s : Sequent) (x : ℕ) (q : Quantified) → AllValid inst own (put_in put (with_new inst s x q) (at_new x q)) → Enters put s x q
  entered put s x (Nodes y body) h = by_body (put_node y body (Var x)) refl h
    where
      by_body : (o : Option Formula) → put_node y body (Var x) ≡ o → AllValid inst own (put_in put (Some (with_variable s x (node_sort inst.nodes))) o) → Enters put s x (Nodes y body)
      by_body None e h = absurd h
      by_body (Some f) e h = (f, e, h.0)
  entered put s x (Messages m lab tag body) h = by_label (label_number lab) (put_message m body x) refl refl h
    where
      by_label : (l : Option ℕ) (o : Option Formula) → label_number lab ≡ l → put_message m body x ≡ o → AllValid inst own (put_in put (option_map (λ number. with_message s x number tag) l) o) → Enters put s x (Messages m lab tag body)
      by_label None o l e h = absurd h
      by_label (Some number) None l e h = absurd h
      by_label (Some number) (Some f) l e h = (number, f, l, e, h.0)

  open-sound : (s : Sequent) (x : ℕ) (o : Option Quantified) → InstancesAreFormed inst → as_universal s.goal ≡ o → AllValid inst own (enter with_goal inst s x o) → V s
  open-sound s x None formed e h = absurd h
  open-sound s x (Some q) formed e h = by_new (is_new s x) refl h
    where
      by_kind : (q : Quantified) → is_new s x ≡ true → as_universal s.goal ≡ Some q → Enters with_goal s x q → V s
      by_kind (Nodes y body) n e h = open-node s x y body h.0 n e h.1 h.2
      by_kind (Messages m lab tag body) n e h = open-message s x m lab tag h.0 body h.1 formed n e h.2 h.3 h.4

      by_new : (new : Bool) → is_new s x ≡ new → AllValid inst own (if new then put_in with_goal (with_new inst s x q) (at_new x q) else None) → V s
      by_new true n h = by_kind q n e (entered with_goal s x q h)
      by_new false n h = absurd h

  unpack-sound : (s : Sequent) (hyp x name : ℕ) (o : Option Quantified) → InstancesAreFormed inst → part_of as_existential s hyp ≡ o → AllValid inst own (enter (λ t. with_fact t name) inst s x o) → V s
  unpack-sound s hyp x name None formed e h = absurd h
  unpack-sound s hyp x name (Some q) formed e h = by_new (is_new s x) refl h
    where
      by_kind : (q : Quantified) → is_new s x ≡ true → part_of as_existential s hyp ≡ Some q → Enters (λ t. with_fact t name) s x q → V s
      by_kind (Nodes y body) n e h = unpack-node s hyp x name y body h.0 n e h.1 h.2
      by_kind (Messages m lab tag body) n e h = unpack-message s hyp x name m lab tag h.0 body h.1 formed n e h.2 h.3 h.4

      by_new : (new : Bool) → is_new s x ≡ new → AllValid inst own (if new then put_in (λ t. with_fact t name) (with_new inst s x q) (at_new x q) else None) → V s
      by_new true n h = by_kind q n e (entered (λ t. with_fact t name) s x q h)
      by_new false n h = absurd h

  -- ---- instances

  node-instance : (s : Sequent) (o : Option Term) (y : ℕ) (body f : Formula) (state : State) (names : Names) → IsGrounded inst → IsOwn inst s.own own → at_node inst s o y body ≡ Some f → IsWellSorted inst state → Fits s own state names
      → (k : ℕ) × (k < inst.nodes) × (holds f names state ≡ holds body (with_number names y (pos k)) state)
  node-instance s None y body f state names ground is e sorted fits = cc
  node-instance s (Some t) y body f state names ground is e sorted fits = by_test (is_allowed inst s t) refl e
    where
      by_capture : (caught : Bool) → is_allowed inst s t ≡ true → captures (for_variable y t) body ≡ caught → (if caught then None else Some (substituted body y t)) ≡ Some f → (k : ℕ) × (k < inst.nodes) × (holds f names state ≡ holds body (with_number names y (pos k)) state)
      by_capture true a c e = cc
      by_capture false a c e =
          let same : substituted body y t ≡ f = cc in
          let node = node-term-sound inst s t ground (and-left (is_node_term inst s t) (knows (var_names s) (message_names s) t) a) own state names is sorted fits in
          (node.0, node.2, ap (λ g. holds g names state) (sym same) ∙ holds-substituted body y t names state c ∙ ap (λ v. holds body (with_number names y v) state) node.1)

      by_test : (allowed : Bool) → is_allowed inst s t ≡ allowed → (if allowed then put_node y body t else None) ≡ Some f → (k : ℕ) × (k < inst.nodes) × (holds f names state ≡ holds body (with_number names y (pos k)) state)
      by_test false a e = cc
      by_test true a e = by_capture (captures (for_variable y t) body) a refl e

  message-is : (s : Sequent) (name : ℕ) (o : Option Declared) (lab : Lab) (l : Option ℕ) (tag : ℕ) (state : State) (names : Names) → message_of s.messages name ≡ o → label_number lab ≡ l → is_message_of o l tag ≡ true → Fits s own state names
      → (id : ℕ) × (names.message name ≡ Some (Stored (label_of own lab) id)) × IsMessageOf state (label_of own lab) tag id
  message-is s name None lab l tag state names e n h fits = cc
  message-is s name (Some m) lab None tag state names e n h fits = cc
  message-is s name (Some m) lab (Some number) tag state names e n h fits =
      let stands = message-stands s.messages name m own state names e fits.messages in
      let place = ap (message_label own) (eqb-true m.1 number (and-left _ _ h)) ∙ number-is lab number n in
      let tag_is : m.2 ≡ tag = eqb-true m.2 tag (and-right _ _ h) in
      subst (λ t. (id : ℕ) × (names.message name ≡ Some (Stored (label_of own lab) id)) × IsMessageOf state (label_of own lab) t id) tag_is
      (subst (λ l. (id : ℕ) × (names.message name ≡ Some (Stored l id)) × IsMessageOf state l m.2 id) place stands)

  message-instance : (s : Sequent) (o : Option ℕ) (m : ℕ) (lab : Lab) (tag : ℕ) (body f : Formula) (state : State) (names : Names) → InstancesAreFormed inst → at_given s o m lab tag body ≡ Some f → IsWellSorted inst state → Fits s own state names
      → (id : ℕ) × IsMessageOf state (label_of own lab) tag id × (holds f names state ≡ holds body (with_meaning names m (Stored (label_of own lab) id)) state)
  message-instance s None m lab tag body f state names formed e sorted fits = cc
  message-instance s (Some k) m lab tag body f state names formed e sorted fits = by_test (is_message_of (message_of s.messages k) (label_number lab) tag) refl e
    where
      by_capture : (caught : Bool) → is_message_of (message_of s.messages k) (label_number lab) tag ≡ true → captures (for_message m (parts_of k)) body ≡ caught → (if caught then None else Some (message_substituted body m (parts_of k))) ≡ Some f
          → (id : ℕ) × IsMessageOf state (label_of own lab) tag id × (holds f names state ≡ holds body (with_meaning names m (Stored (label_of own lab) id)) state)
      by_capture true a c e = cc
      by_capture false a c e =
          let same : message_substituted body m (parts_of k) ≡ f = cc in
          let it = message-is s k (message_of s.messages k) lab (label_number lab) tag state names refl refl a fits in
          (it.0, it.2, ap (λ g. holds g names state) (sym same) ∙ holds-message_put inst body m k (label_of own lab) it.0 names state formed sorted c it.1)

      by_test : (is : Bool) → is_message_of (message_of s.messages k) (label_number lab) tag ≡ is → (if is then put_message m body k else None) ≡ Some f
          → (id : ℕ) × IsMessageOf state (label_of own lab) tag id × (holds f names state ≡ holds body (with_meaning names m (Stored (label_of own lab) id)) state)
      by_test false a e = cc
      by_test true a e = by_capture (captures (for_message m (parts_of k)) body) a refl e

  give-sound : (s : Sequent) (what : Given) (q : Quantified) (f : Formula) → InstancesAreFormed inst → IsGrounded inst → IsOwn inst s.own own → as_existential s.goal ≡ Some q → instance inst s what q ≡ Some f → V (with_goal s f) → V s
  give-sound s what (Nodes y body) f formed ground is e made v state names sorted fits facts =
      let at_it = node-instance s (given_node s what) y body f state names ground is made sorted fits in
      let here = v state names sorted (goal-fits s f own state names fits) facts in
      let k_below = subst (λ n. at_it.0 < n) (sym sorted.nodes) at_it.1 in
      existential-says s.goal (Nodes y body) names state e ∙ some_below-true at_it.0 state.nodes _ k_below (sym at_it.2 ∙ here)
  give-sound s what (Messages m lab tag body) f formed ground is e made v state names sorted fits facts =
      let it = message-instance s (given_message what) m lab tag body f state names formed made sorted fits in
      let here = v state names sorted (goal-fits s f own state names fits) facts in
      existential-says s.goal (Messages m lab tag body) names state e
      ∙ ap (λ l. some_message state (label_of l lab) tag (λ id. holds body (with_meaning names m (Stored (label_of l lab) id)) state)) fits.own_label
      ∙ some_below-true it.0 (length (soup_at state (label_of own lab))) _ it.1.0 (and-true _ _ (eq-eqb _ _ it.1.1) (sym it.2 ∙ here))

  inst-sound : (s : Sequent) (hyp name : ℕ) (what : Given) (q : Quantified) (f : Formula) → InstancesAreFormed inst → IsGrounded inst → IsOwn inst s.own own → part_of as_universal s hyp ≡ Some q → instance inst s what q ≡ Some f → V (with_fact s name f) → V s
  inst-sound s hyp name what (Nodes y body) f formed ground is e made v state names sorted fits facts =
      let g = then-found (fact_of s hyp) as_universal (Nodes y body) e in
      let at_it = node-instance s (given_node s what) y body f state names ground is made sorted fits in
      let everywhere = sym (universal-says g.0 (Nodes y body) names state g.2) ∙ fact-true s.facts hyp g.0 state names g.1 facts in
      let k_below = subst (λ n. at_it.0 < n) (sym sorted.nodes) at_it.1 in
      v state names sorted (fact-fits s name f own state names fits)
      (push-fact s state names name f facts (at_it.2 ∙ every_below-at state.nodes _ everywhere at_it.0 k_below))
  inst-sound s hyp name what (Messages m lab tag body) f formed ground is e made v state names sorted fits facts =
      let g = then-found (fact_of s hyp) as_universal (Messages m lab tag body) e in
      let it = message-instance s (given_message what) m lab tag body f state names formed made sorted fits in
      let everywhere = ap (λ l. every_message state (label_of l lab) tag (λ id. holds body (with_meaning names m (Stored (label_of l lab) id)) state)) (sym fits.own_label)
      ∙ sym (universal-says g.0 (Messages m lab tag body) names state g.2) ∙ fact-true s.facts hyp g.0 state names g.1 facts in
      v state names sorted (fact-fits s name f own state names fits)
      (push-fact s state names name f facts (it.2 ∙ implied _ _ (every_below-at (length (soup_at state (label_of own lab))) _ everywhere it.0 it.1.0) (eq-eqb _ _ it.1.1)))

  -- ---- changes

  put-true : (hs : List Hypothesis) (at : ℕ) (f : Formula) (state : State) (names : Names) → FactsHold hs names state → holds f names state ≡ true → FactsHold (put_fact hs at f) names state
  put-true [] at f state names all h = tt
  put-true (g ∷ gs) at f state names all h = by_test (g.name == at) (put-true gs at f state names all.1 h)
    where
      by_test : (test : Bool) → FactsHold (put_fact gs at f) names state → FactsHold (if test then record { name = g.name; formula = f } ∷ gs else g ∷ put_fact gs at f) names state
      by_test true rest = (h, all.1)
      by_test false rest = (all.0, rest)

  -- a formula of the sequent may be replaced by one of the same truth wherever the hypotheses hold
  change-sound : (s : Sequent) (hyp at : ℕ) (f g : Formula) → target s hyp at ≡ Some f
      → ((state : State) (names : Names) → IsWellSorted inst state → Fits s own state names → FactsHold s.facts names state → holds g names state ≡ holds f names state)
      → V (put_target s at g) → V s
  change-sound s hyp at f g e same v state names sorted fits facts = by_test (at == goal_word) (at == hyp) e v
    where
      by_test : (at_goal at_hyp : Bool) → (if at_goal then Some s.goal else if at_hyp then None else fact_of s at) ≡ Some f
          → V (if at_goal then with_goal s g else record s { facts = put_fact s.facts at g }) → holds s.goal names state ≡ true
      by_test true at_hyp e v =
          let is : s.goal ≡ f = cc in
          ap (λ x. holds x names state) is ∙ sym (same state names sorted fits facts) ∙ v state names sorted (goal-fits s g own state names fits) facts
      by_test false true e v = cc
      by_test false false e v =
          v state names sorted (record { own_label = fits.own_label; variables = fits.variables; messages = fits.messages })
          (put-true s.facts at g state names facts (same state names sorted fits facts ∙ fact-true s.facts at f state names e facts))

  id-in : (soup : List StoredMessage) (n i : ℕ) → n < length soup → part_stored i (slice_get soup n) Id ≡ pos i
  id-in [] n i lt = absurd (omega arith)
  id-in (m ∷ ms) zero i lt = refl
  id-in (m ∷ ms) (suc n) i lt = id-in ms n i (omega arith)

  stored-id : (state : State) (label tag id : ℕ) → IsMessageOf state label tag id → part_at state label id Id ≡ pos id
  stored-id state label tag id is = id-in (soup_at state label) id id is.0

  -- two messages of one label and tag with one id are one message
  one-meaning : (s : Sequent) (m k : ℕ) (o p : Option Declared) (state : State) (names : Names) → message_of s.messages m ≡ o → message_of s.messages k ≡ p → are_alike o p ≡ true → Fits s own state names
      → value (Msg m Id) names state ≡ value (Msg k Id) names state → (label : ℕ) × (id : ℕ) × (names.message m ≡ Some (Stored label id)) × (names.message k ≡ Some (Stored label id))
  one-meaning s m k None p state names e e' h fits same = cc
  one-meaning s m k (Some a) None state names e e' h fits same = cc
  one-meaning s m k (Some a) (Some b) state names e e' h fits same =
      let first = message-stands s.messages m a own state names e fits.messages in
      let second = message-stands s.messages k b own state names e' fits.messages in
      let place : a.1 ≡ b.1 = eqb-true a.1 b.1 (and-left _ _ h) in
      let one = ap (λ o. part_in state o Id) first.1 ∙ stored-id state (message_label own a.1) a.2 first.0 first.2 in
      let two = ap (λ o. part_in state o Id) second.1 ∙ stored-id state (message_label own b.1) b.2 second.0 second.2 in
      let ids : pos first.0 ≡ pos second.0 = sym one ∙ same ∙ two in
      let id : first.0 ≡ second.0 = cc in
      (message_label own a.1, first.0, first.1, second.1 ∙ (λ i. Some (Stored (message_label own (sym place i)) (sym id i))))

  id-term : (t : Term) (m : ℕ) → id_of t ≡ Some m → t ≡ Msg m Id
  id-term (Msg n Id) m e = let is : n ≡ m = cc in ap (λ k. Msg k Id) is
  id-term (Msg n From) m e = cc
  id-term (Msg n To) m e = cc
  id-term (Msg n Live) m e = cc
  id-term (Msg n (Arg k)) m e = cc
  id-term _ m e = cc

  equation-true : (s : Sequent) (hyp : ℕ) (e : Equation) (state : State) (names : Names) → part_of as_equation s hyp ≡ Some e → FactsHold s.facts names state → value e.left names state ≡ value e.right names state
  equation-true s hyp e state names h facts =
      let f = then-found (fact_of s hyp) as_equation e h in
      (Decides-int_eq _ _).0 (sym (equation-says f.0 e names state f.2) ∙ fact-true s.facts hyp f.0 state names f.1 facts)

  with-itself : (f : Formula) (m : ℕ) (new : Meant) (names : Names) (state : State) → names.message m ≡ Some new → holds f (with_meaning names m new) state ≡ holds f names state
  with-itself f m new names state e =
      holds-agree f (with_meaning names m new) names state (record {
        own = refl;
        number = λ z free. refl;
        message = λ z free. by_test (z == m) z (λ t. ap names.message (eqb-true z m t) ∙ e);
      })
    where
      by_test : (test : Bool) (z : ℕ) → (test ≡ true → names.message z ≡ Some new) → (if test then Some new else names.message z) ≡ names.message z
      by_test true z h = sym (h refl)
      by_test false z h = refl

  id-put : (s : Sequent) (hyp : ℕ) (e : Equation) (o p : Option ℕ) (f g : Formula) (state : State) (names : Names) → InstancesAreFormed inst → IsWellSorted inst state → part_of as_equation s hyp ≡ Some e → id_of e.left ≡ o → id_of e.right ≡ p → are_one s o p ≡ true
      → put_id o p f ≡ Some g → Fits s own state names → FactsHold s.facts names state → holds g names state ≡ holds f names state
  id-put s hyp e None p f g state names formed sorted is x y is_one made fits facts = cc
  id-put s hyp e (Some m) None f g state names formed sorted is x y is_one made fits facts = cc
  id-put s hyp e (Some m) (Some k) f g state names formed sorted is x y is_one made fits facts =
      let same = sym (ap (λ t. value t names state) (id-term e.left m x)) ∙ equation-true s hyp e state names is facts ∙ ap (λ t. value t names state) (id-term e.right k y) in
      let meaning = one-meaning s m k (message_of s.messages m) (message_of s.messages k) state names refl refl is_one fits same in
      by_capture (captures (for_message m (parts_of k)) f) meaning.0 meaning.1 meaning.2 meaning.3 refl made
    where
      by_capture : (caught : Bool) (label id : ℕ) → names.message m ≡ Some (Stored label id) → names.message k ≡ Some (Stored label id) → captures (for_message m (parts_of k)) f ≡ caught → (if caught then None else Some (message_substituted f m (parts_of k))) ≡ Some g → holds g names state ≡ holds f names state
      by_capture true label id a b c e = cc
      by_capture false label id a b c e =
          let there : message_substituted f m (parts_of k) ≡ g = cc in
          ap (λ x. holds x names state) (sym there) ∙ holds-message_put inst f m k label id names state formed sorted c b ∙ with-itself f m (Stored label id) names state a

  term-put : (s : Sequent) (hyp : ℕ) (e : Equation) (f g : Formula) (state : State) (names : Names) → part_of as_equation s hyp ≡ Some e → put_term e f ≡ Some g → FactsHold s.facts names state → holds g names state ≡ holds f names state
  term-put s hyp e f g state names is made facts = by_capture (captures (for_term e.left e.right) f) refl made
    where
      by_capture : (caught : Bool) → captures (for_term e.left e.right) f ≡ caught → (if caught then None else Some (replaced f e.left e.right)) ≡ Some g → holds g names state ≡ holds f names state
      by_capture true c h = cc
      by_capture false c h =
          let there : replaced f e.left e.right ≡ g = cc in
          ap (λ x. holds x names state) (sym there) ∙ holds-replaced f e.left e.right names state c (equation-true s hyp e state names is facts)

  rewrite-sound : (s : Sequent) (hyp at : ℕ) (o : Option Equation) (t : Option Formula) (g : Formula) → InstancesAreFormed inst → part_of as_equation s hyp ≡ o → target s hyp at ≡ t → rewrite_by s o t ≡ Some g → V (put_target s at g) → V s
  rewrite-sound s hyp at None t g formed e e' made v = cc
  rewrite-sound s hyp at (Some q) None g formed e e' made v = cc
  rewrite-sound s hyp at (Some q) (Some f) g formed e e' made v =
      change-sound s hyp at f g e' (λ state names sorted fits facts. by_test state names sorted fits facts (are_one s (id_of q.left) (id_of q.right)) refl made) v
    where
      by_test : (state : State) (names : Names) → IsWellSorted inst state → Fits s own state names → FactsHold s.facts names state → (test : Bool) → are_one s (id_of q.left) (id_of q.right) ≡ test → (if test then put_id (id_of q.left) (id_of q.right) f else put_term q f) ≡ Some g → holds g names state ≡ holds f names state
      by_test state names sorted fits facts true is made = id-put s hyp q (id_of q.left) (id_of q.right) f g state names formed sorted e refl refl is made fits facts
      by_test state names sorted fits facts false is made = term-put s hyp q f g state names e made facts

  reduce-sound : (s : Sequent) (hyp at : ℕ) (o p : Option Equation) (t : Option Formula) (g : Formula) → part_of as_equation s hyp ≡ o → part_of as_denied s hyp ≡ p → target s hyp at ≡ t → reduce_by o p t ≡ Some g → V (put_target s at g) → V s
  reduce-sound s hyp at (Some q) p None g e e' e'' made v = cc
  reduce-sound s hyp at None (Some q) None g e e' e'' made v = cc
  reduce-sound s hyp at None None None g e e' e'' made v = cc
  reduce-sound s hyp at None None (Some f) g e e' e'' made v = cc
  reduce-sound s hyp at (Some q) p (Some f) g e e' e'' made v =
      change-sound s hyp at f g e'' (λ state names sorted fits facts.
      let same : reduced f q.left q.right true ≡ g = cc in
      ap (λ x. holds x names state) (sym same) ∙ holds-reduced f q.left q.right true names state ((Decides-int_eq _ _).1 (equation-true s hyp q state names e facts))) v
  reduce-sound s hyp at None (Some q) (Some f) g e e' e'' made v =
      change-sound s hyp at f g e'' (λ state names sorted fits facts.
      let same : reduced f q.left q.right false ≡ g = cc in
      let h = then-found (fact_of s hyp) as_denied q e' in
      let no = sym (denied-says h.0 q names state h.2) ∙ fact-true s.facts hyp h.0 state names h.1 facts in
      ap (λ x. holds x names state) (sym same) ∙ holds-reduced f q.left q.right false names state (of-not _ no)) v

  -- ---- bounds

  between-true : (s : Sequent) (t : Term) (f : Formula) (state : State) (names : Names) → option_map (λ sort. between sort t) (bounds_of inst s t) ≡ Some f → IsGrounded inst → IsOwn inst s.own own → IsWellSorted inst state → Fits s own state names → holds f names state ≡ true
  unfolding opened
  between-true s t f state names made ground is sorted fits =
      let b = map-found (bounds_of inst s t) (λ sort. between sort t) f made in
      ap (λ g. holds g names state) (sym b.2) ∙ bounds-sound inst s t b.0 ground b.1 own state names is sorted fits

  written-is : (label : ℕ) → label_of own (written_label label) ≡ message_label own label
  written-is label = by_test (label == 255)
    where
      by_test : (test : Bool) → label_of own (if test then Own else At label) ≡ (if test then own else label)
      by_test true = refl
      by_test false = refl

  below-length : (k n : ℕ) → k < n → int_lt (pos k) (pos n) ≡ true
  below-length k n lt = lt-ltb k n lt

  id-range-true : (s : Sequent) (name : ℕ) (o : Option Declared) (f : Formula) (state : State) (names : Names) → message_of s.messages name ≡ o → id_range name o ≡ Some f → Fits s own state names → holds f names state ≡ true
  unfolding opened
  id-range-true s name None f state names e made fits = cc
  id-range-true s name (Some m) f state names e made fits =
      let same : And (Le (Num (pos 0)) (Msg name Id)) (Lt (Msg name Id) (Len (written_label m.1))) ≡ f = cc in
      let stands = message-stands s.messages name m own state names e fits.messages in
      let is_id = ap (λ o. part_in state o Id) stands.1 ∙ stored-id state (message_label own m.1) m.2 stands.0 stands.2 in
      let place = ap (λ l. label_of l (written_label m.1)) fits.own_label ∙ written-is m.1 in
      let above : int_le (pos 0) (pos stands.0) ≡ true = le-leb 0 stands.0 (omega arith) in
      let below = below-length stands.0 (length (soup_at state (message_label own m.1))) stands.2.0 in
      ap (λ g. holds g names state) (sym same)
      ∙ and-true _ _ (ap (λ z. int_le (pos 0) z) is_id ∙ above) ((λ i. int_lt (is_id i) (pos (length (soup_at state (place i))))) ∙ below)

  range-true : (s : Sequent) (t : Term) (f : Formula) (state : State) (names : Names) → range_of inst s t ≡ Some f → IsGrounded inst → IsOwn inst s.own own → IsWellSorted inst state → Fits s own state names → holds f names state ≡ true
  unfolding opened
  range-true s (Len label) f state names made ground is sorted fits =
      let same : Le (Num (pos 0)) (Len label) ≡ f = cc in
      ap (λ g. holds g names state) (sym same) ∙ le-leb 0 _ (omega arith)
  range-true s (Msg name Id) f state names made ground is sorted fits = id-range-true s name (message_of s.messages name) f state names refl made fits
  range-true s t f state names made ground is sorted fits = between-true s t f state names made ground is sorted fits

  range-sound : (s : Sequent) (t : Term) (name : ℕ) (f : Formula) → range_of inst s t ≡ Some f → IsGrounded inst → IsOwn inst s.own own → V (with_fact s name f) → V s
  range-sound s t name f made ground is v state names sorted fits facts =
      v state names sorted (fact-fits s name f own state names fits) (push-fact s state names name f facts (range-true s t f state names made ground is sorted fits))

  -- ---- certificates

  one-used : (cert : Certificate) (name : ℕ) (o : Option Sides) (state : State) (names : Names) → IfSome o (SidesHold names state) → IfSome (if_used cert name o) (SidesHold names state)
  one-used cert name o state names h = by_test (uses name cert)
    where
      by_test : (test : Bool) → IfSome (if test then o else None) (SidesHold names state)
      by_test true = h
      by_test false = tt

  used-hold : (cert : Certificate) (hs : List Hypothesis) (extra : Option Sides) (state : State) (names : Names) → FactsHold hs names state → IfSome extra (SidesHold names state) → AllHold names state (rows_used cert hs extra)
  used-hold cert [] extra state names all h = All-cons (λ o. IfSome o (SidesHold names state)) (if_used cert goal_word extra) [] (one-used cert goal_word extra state names h) (All-nil (λ o. IfSome o (SidesHold names state)))
  used-hold cert (g ∷ gs) extra state names all h =
      All-cons (λ o. IfSome o (SidesHold names state)) (if_used cert g.name (sides_of g.formula)) (rows_used cert gs extra)
      (one-used cert g.name (sides_of g.formula) state names ((sides-say g.formula names state).0 (λ e. all.0)))
      (used-hold cert gs extra state names all.1 h)

  is-none : {X : Type 0} (o : Option X) → is_none o ≡ true → o ≡ None
  is-none None h = refl
  is-none (Some x) h = cc

  refuted : (hs : List Hypothesis) (extra : Option Sides) (cert : Certificate) (state : State) (names : Names) → refutes hs extra cert ≡ true → FactsHold hs names state → IfSome extra (SidesHold names state) → ⊥
  refuted hs extra cert state names h facts there =
      let os = rows_used cert hs extra in
      let none = is-none (verdict (length (lines_from os).atoms) (lines_from os).rows (numbered hs cert)) (and-right (are_narrow os) _ h) in
      no-solution (length (lines_from os).atoms) (lines_from os).rows (numbered hs cert) none (value_at (lines_from os).atoms names state)
      ((lines-say os names state).0 (used-hold cert hs extra state names facts there))

  not-false : (b : Bool) → not b ≡ false → b ≡ true
  not-false true h = refl
  not-false false h = cc

  denied-hold : (f : Formula) (names : Names) (state : State) → holds f names state ≡ false → IfSome (denied_sides f) (SidesHold names state)
  unfolding opened
  denied-hold (Lt a b) names state h = (sides-say (Not (Lt a b)) names state).0 (λ e. not-of _ h)
  denied-hold (Le a b) names state h = (sides-say (Not (Le a b)) names state).0 (λ e. not-of _ h)
  denied-hold (Not' _ (one f end)) names state h = (sides-say f names state).0 (λ e. not-false (holds f names state) h)
  denied-hold _ names state h = tt

  one-closes : (s : Sequent) (cert : Certificate) → refutes s.facts (denied_sides s.goal) cert ≡ true → V s
  one-closes s cert h state names sorted fits facts =
      by_case (holds s.goal names state) _ (λ here. here)
      (λ no. absurd (refuted s.facts (denied_sides s.goal) cert state names h facts (denied-hold s.goal names state no)))

  two-close : (s : Sequent) (a b : Term) (first second : Certificate) → s.goal ≡ Eq a b → (refutes s.facts (Some (below a b)) first && refutes s.facts (Some (below b a)) second) ≡ true → V s
  two-close s a b first second e h state names sorted fits facts =
      ap (λ f. holds f names state) e
      ∙ by_case (int_eq (value a names state) (value b names state)) _ (λ here. here)
      (λ no. absurd (by_order (value a names state) (value b names state) no
      (λ lt. refuted s.facts (Some (below a b)) first state names (and-left _ _ h) facts ((sides-say (Lt a b) names state).0 (λ e. lt)))
      (λ lt. refuted s.facts (Some (below b a)) second state names (and-right _ _ h) facts ((sides-say (Lt b a) names state).0 (λ e. lt)))))
    where
      from-T : (b : Bool) → T b → b ≡ true
      from-T true h = refl
      from-T false h = absurd h

      lt-test : (a b : ℤ) → a <ℤ b → int_lt a b ≡ true
      lt-test a b h = from-T (int_lt a b) h.lt

      by_order : (v w : ℤ) → int_eq v w ≡ false → (int_lt v w ≡ true → ⊥) → (int_lt w v ≡ true → ⊥) → ⊥
      by_order v w differ f g =
          by_lt_z v w (λ lt. f (lt-test v w lt)) (λ le.
          by_lt_z w v (λ lt. g (lt-test w v lt)) (λ ge.
          let same : v ≡ w = omega (arith, ints, le, ge) in
          clash _ ⊥ ((Decides-int_eq v w).1 same) differ))

  linear-sound : (s : Sequent) (f : Formula) (first : Certificate) (second : Option Certificate) → s.goal ≡ f → linear_closes s.facts f first second ≡ true → V s
  linear-sound s (Eq a b) first None e h = cc
  linear-sound s (Eq a b) first (Some second) e h = two-close s a b first second e h
  linear-sound s f first (Some second) e h = cc
  linear-sound s f first None e h = one-closes s first (subst (λ g. refutes s.facts (denied_sides g) first ≡ true) (sym e) h)

  -- ---- all rules

  pub left-sound : (s : Sequent) (rule : Rule) → InstancesAreFormed inst → IsGrounded inst → IsOwn inst s.own own → AllValid inst own (left_by inst s rule) → V s
  left-sound s (r.By hyp) formed ground is h = by-sound inst s own hyp (closed inst own _ h)
  left-sound s r.Close formed ground is h = close-sound inst s own (closed inst own _ h)
  left-sound s (r.Split' _ _ _ _) formed ground is h = split-sound s (as_and s.goal) refl h
  left-sound s (r.Pick' part _ _) formed ground is h = pick-sound s part (as_or s.goal) refl h
  left-sound s (r.Intro' name _ _) formed ground is h = intro-sound s name (as_implication s.goal) refl h
  left-sound s (r.Open' x _ _) formed ground is h = open-sound s x (as_universal s.goal) formed refl h
  left-sound s (r.Give' what _ _) formed ground is h =
      let f = left-one (with_goal s) (option_and_then (instance inst s what) (as_existential s.goal)) h in
      let q = then-found (as_existential s.goal) (instance inst s what) f.0 f.1 in
      give-sound s what q.0 f.0 formed ground is q.1 q.2 f.2
  left-sound s (r.Parts' hyp left right _ _) formed ground is h = parts-sound s hyp left right (part_of as_and s hyp) refl h
  left-sound s (r.Cases' hyp name _ _ _ _) formed ground is h = cases-sound s hyp name (part_of as_or s hyp) refl h
  left-sound s (r.Apply' hyp name _ _ _ _) formed ground is h = apply-sound s hyp name (part_of as_implication s hyp) refl h
  left-sound s (r.Inst' hyp what name _ _) formed ground is h =
      let f = left-one (with_fact s name) (option_and_then (instance inst s what) (part_of as_universal s hyp)) h in
      let q = then-found (part_of as_universal s hyp) (instance inst s what) f.0 f.1 in
      inst-sound s hyp name what q.0 f.0 formed ground is q.1 q.2 f.2
  left-sound s (r.Unpack' hyp x name _ _) formed ground is h = unpack-sound s hyp x name (part_of as_existential s hyp) formed refl h
  left-sound s (r.Have' f name _ _ _ _) formed ground is h = have-sound s f name h
  left-sound s (r.Decide' f name _ _ _ _) formed ground is h = decide-sound s f name h
  left-sound s (r.Rewrite' hyp at _ _) formed ground is h =
      let g = left-one (put_target s at) (rewrite_by s (part_of as_equation s hyp) (target s hyp at)) h in
      rewrite-sound s hyp at (part_of as_equation s hyp) (target s hyp at) g.0 formed refl refl g.1 g.2
  left-sound s (r.Reduce' hyp at _ _) formed ground is h =
      let g = left-one (put_target s at) (reduce_by (part_of as_equation s hyp) (part_of as_denied s hyp) (target s hyp at)) h in
      reduce-sound s hyp at (part_of as_equation s hyp) (part_of as_denied s hyp) (target s hyp at) g.0 refl refl refl g.1 g.2
  left-sound s (r.Range' t name _ _) formed ground is h =
      let f = left-one (with_fact s name) (range_of inst s t) h in
      range-sound s t name f.0 f.1 ground is f.2
  left-sound s (r.Linear first second) formed ground is h = linear-sound s s.goal first second refl (closed inst own _ h)

  clean-left : (o : Option (List Sequent)) → AllValid inst own (only_clean o) → AllValid inst own o
  clean-left None h = h
  clean-left (Some ss) h = by_test (list_all is_clean ss) h
    where
      by_test : (test : Bool) → AllValid inst own (if test then Some ss else None) → Each (λ s. IsValidAt inst s own) ss
      by_test true h = h
      by_test false h = absurd h

  -- a sequent is valid where all that a rule leaves is
  pub step-sound : (s : Sequent) (rule : Rule) → InstancesAreFormed inst → IsGrounded inst → IsOwn inst s.own own → AllValid inst own (after inst s rule) → V s
  step-sound s rule formed ground is h = left-sound s rule formed ground is (clean-left (left_by inst s rule) h)
