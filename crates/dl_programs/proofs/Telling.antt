-- Formulas of the file tell their names apart, and stay so where terms are put for variables.
use Rattle.std.proofs.Common.{◌≡◌, ℕ, pos, ◌<◌, ◌≤◌, ◌==◌, Bool, true, false, if◌then◌else◌, Option, Some, None, List, [], ◌∷◌, ◌++◌, map, take, slice_get, refl, ap, sym, ◌∙◌, subst, arith, inl, inr, ◌⊎◌}
use Rattle.std.proofs.lemmas.Bool.{eqb-true, false≢true}
use Rattle.std.specs.Prelude.{nat_le}
use Rattle.std.specs.List.{AllByRecursion as Each, list_all, flat_map}
use Rattle.dl_term.specs.declared.syntax.Lab.{Lab}
use Rattle.dl_term.specs.declared.syntax.Lab.TheVariants.{Own}
use Rattle.dl_term.specs.declared.syntax.Term.{Term, Num, Var}
use Rattle.dl_term.specs.declared.syntax.Formula.{Formula, True, False, Eq, Lt, Le, Not', And', Or', Implies', All', Exists', Each', Any', more_of-Formula as one_formula, end_of-Formula as end_formula}
use Rattle.dl_model.specs.declared.protocol.Protocol.{Protocol}
use Rattle.dl_model.specs.declared.sequent.Hypothesis.{Hypothesis}
use Rattle.dl_model.specs.declared.sequent.Sequent.{Sequent}
use Rattle.dl_model.specs.declared.file.World.{World}
use Rattle.dl_model.specs.declared.file.Invariant.{Invariant}
use Rattle.dl_model.specs.declared.file.Decls.{Decls}
use Rattle.dl_model.specs.Sorts.{has}
use Rattle.dl_model.specs.Words.{first_name}
use Rattle.dl_model.specs.Spoken.{bound_names}
use Rattle.dl_model.specs.Lookup.{protocol_at, world_at}
use Rattle.dl_model.specs.Scopes.{Scope, with_variable, with_message, own_label, file_label, FormulaIsKnown}
use Rattle.dl_model.specs.Formed.{AreDistinct, IsFormed, file_bound, coherence_bound}
use Rattle.dl_model.proofs.Small.{and-left, and-both, or-left, or-right, or-both, or-true-left, or-true-right, either-true, eqb-other}
use Rattle.dl_sequent.specs.Clean.{is_told_apart, are_distinct, var_names, message_names, fact_names, IsClean}
use Rattle.dl_subst.specs.Change.{Change, changed}
use Rattle.dl_subst.specs.Substitution.{for_variable, for_variables, put_for_variable, put_for_variables, term_for, substituted, terms_put}
use Rattle.dl_inv.specs.Steps.{called}
use Rattle.dl_inv.specs.Facts.{coherence_fact, coherence_at, visible_in, facts_of, injects}
use Rattle.dl_inv.proofs.Lists.{each-append, each-flat, each-has, each-take, each-found, true-false, not-true}
use Rattle.dl_inv.proofs.Told.{Inside, Passes, unknown-is, is-no-variable, is-no-message, told-known, changed-told}
use Rattle.dl_inv.proofs.StepTold.{IsWithin, Wide, wide-variable, wide-message, labelled-told}
use Rattle.dl_inv.proofs.FormedParts.{coherence-known}
use Rattle.dl_inv.proofs.FactNames.{distinct-is, distinct-join}
use Rattle.dl_inv.proofs.FileNames.{Frees, coherence-free, invariants-free}

-- ---- sequents

all-each : {X : Type 0} (p : X → Bool) (xs : List X) → Each (λ x. p x ≡ true) xs → list_all p xs ≡ true
all-each p [] h = refl
all-each p (x ∷ xs) h = and-both (p x) (list_all p xs) h.0 (all-each p xs h.1)

-- a sequent with these variables and messages
pub clean-of : (s : Sequent) (vs ks : List ℕ) → var_names s ≡ vs → message_names s ≡ ks → AreDistinct (vs ++ ks) → AreDistinct (fact_names s) →
    Each (λ (h : Hypothesis). is_told_apart vs ks h.formula ≡ true) s.facts → is_told_apart vs ks s.goal ≡ true → IsClean s
clean-of s vs ks v k distinct named facts goal =
    and-both _ _
    (and-both _ _ (ap (λ xs. are_distinct (xs ++ message_names s)) v ∙ ap (λ xs. are_distinct (vs ++ xs)) k ∙ distinct-is (vs ++ ks) distinct) (distinct-is (fact_names s) named))
    (and-both _ _
    (ap (λ xs. list_all (λ (h : Hypothesis). is_told_apart xs (message_names s) h.formula) s.facts) v
    ∙ ap (λ xs. list_all (λ (h : Hypothesis). is_told_apart vs xs h.formula) s.facts) k
    ∙ all-each (λ (h : Hypothesis). is_told_apart vs ks h.formula) s.facts facts)
    (ap (λ xs. is_told_apart xs (message_names s) s.goal) v ∙ ap (λ xs. is_told_apart vs xs s.goal) k ∙ goal))

fact-names-join : (xs ys : List Hypothesis) → map (λ (h : Hypothesis). h.name) (xs ++ ys) ≡ map (λ (h : Hypothesis). h.name) xs ++ map (λ (h : Hypothesis). h.name) ys
fact-names-join [] ys = refl
fact-names-join (x ∷ xs) ys = ap (λ zs. x.name ∷ zs) (fact-names-join xs ys)

-- facts of the file, and then hypotheses whose names are words
pub names-with-words : (xs ys : List Hypothesis) → AreDistinct (map (λ (h : Hypothesis). h.name) xs) → ((n : ℕ) → has (map (λ (h : Hypothesis). h.name) xs) n ≡ true → first_name ≤ n) →
    AreDistinct (map (λ (h : Hypothesis). h.name) ys) → Each (λ (h : Hypothesis). h.name < first_name) ys → AreDistinct (map (λ (h : Hypothesis). h.name) (xs ++ ys))
names-with-words xs ys h large k words =
    subst AreDistinct (sym (fact-names-join xs ys)) (distinct-join (map (λ (h : Hypothesis). h.name) xs) (map (λ (h : Hypothesis). h.name) ys) h k (λ n m. lacks ys words n (large n m)))
  where
    lacks : (zs : List Hypothesis) → Each (λ (h : Hypothesis). h.name < first_name) zs → (n : ℕ) → first_name ≤ n → has (map (λ (h : Hypothesis). h.name) zs) n ≡ false
    lacks [] w n l = refl
    lacks (z ∷ zs) w n l = or-both (n == z.name) (has (map (λ (h : Hypothesis). h.name) zs) n) (eqb-other n z.name (λ e. let b = w.0 in omega (b, l, e, arith))) (lacks zs w.1 n l)

-- ---- what is bound is a name of the file

in-either : (xs ys : List ℕ) (n : ℕ) → has (xs ++ ys) n ≡ true → (has xs n ≡ true) ⊎ (has ys n ≡ true)
in-either [] ys n h = inr h
in-either (x ∷ xs) ys n h = elim (either-true (n == x) (has (xs ++ ys) n) h) [
  | inl e ↦ inl (or-true-left (n == x) (has xs n) e)
  | inr e ↦ elim (in-either xs ys n e) [ inl f ↦ inl (or-true-right (n == x) (has xs n) f) | inr f ↦ inr f ]
]

pub bound-large : (f : Formula) (scope : Scope) (y : ℕ) → FormulaIsKnown scope f → has (bound_names f) y ≡ true → nat_le first_name y ≡ true
bound-large True scope y h m = absurd (false≢true m)
bound-large False scope y h m = absurd (false≢true m)
bound-large (Eq a b) scope y h m = absurd (false≢true m)
bound-large (Lt a b) scope y h m = absurd (false≢true m)
bound-large (Le a b) scope y h m = absurd (false≢true m)
bound-large (Not' _ (one_formula f end_formula)) scope y h m = bound-large f scope y h m
bound-large (And' _ (one_formula f end_formula) _ (one_formula g end_formula)) scope y h m = elim (in-either (bound_names f) (bound_names g) y m) [ inl e ↦ bound-large f scope y h.0 e | inr e ↦ bound-large g scope y h.1 e ]
bound-large (Or' _ (one_formula f end_formula) _ (one_formula g end_formula)) scope y h m = elim (in-either (bound_names f) (bound_names g) y m) [ inl e ↦ bound-large f scope y h.0 e | inr e ↦ bound-large g scope y h.1 e ]
bound-large (Implies' _ (one_formula f end_formula) _ (one_formula g end_formula)) scope y h m = elim (in-either (bound_names f) (bound_names g) y m) [ inl e ↦ bound-large f scope y h.0 e | inr e ↦ bound-large g scope y h.1 e ]
bound-large (All' x _ (one_formula f end_formula)) scope y h m = elim (either-true (y == x) (has (bound_names f) y) m) [
  | inl e ↦ ap (nat_le first_name) (eqb-true y x e) ∙ and-left (nat_le first_name x) _ h.0
  | inr e ↦ bound-large f (with_variable scope x) y h.1 e
]
bound-large (Exists' x _ (one_formula f end_formula)) scope y h m = elim (either-true (y == x) (has (bound_names f) y) m) [
  | inl e ↦ ap (nat_le first_name) (eqb-true y x e) ∙ and-left (nat_le first_name x) _ h.0
  | inr e ↦ bound-large f (with_variable scope x) y h.1 e
]
bound-large (Each' k label tag _ (one_formula f end_formula)) scope y h m = elim (either-true (y == k) (has (bound_names f) y) m) [
  | inl e ↦ ap (nat_le first_name) (eqb-true y k e) ∙ and-left (nat_le first_name k) _ h.0
  | inr e ↦ bound-large f (with_message scope k) y h.2 e
]
bound-large (Any' k label tag _ (one_formula f end_formula)) scope y h m = elim (either-true (y == k) (has (bound_names f) y) m) [
  | inl e ↦ ap (nat_le first_name) (eqb-true y k e) ∙ and-left (nat_le first_name k) _ h.0
  | inr e ↦ bound-large f (with_message scope k) y h.2 e
]

-- ---- changes of variables

module _ (c : Change) (vb mb vs ks whole : List ℕ)
    (places : (t u : Term) → c.put t ≡ Some u → IsWithin vs ks u) (numbers : (x : ℕ) → c.put (Var x) ≡ None → has vb x ≡ true → has vs x ≡ true) (parts : (k : ℕ) → has mb k ≡ true → has ks k ≡ true)
    (stops_variable : (y : ℕ) → has vb y ≡ false → c.stops_at_variable y ≡ false) (stops_message : (y : ℕ) → c.stops_at_message y ≡ false)
    (apart : (y : ℕ) → has whole y ≡ true → (has vs y ≡ false) × (has ks y ≡ false)) where
  record Between (v m vars messages : List ℕ) : Type 0 where
    base : (x : ℕ) → has vb x ≡ true → has v x ≡ true
    numbers_in : (x : ℕ) → c.put (Var x) ≡ None → has v x ≡ true → has vars x ≡ true
    parts_in : (k : ℕ) → has m k ≡ true → has messages k ≡ true
    wide : Wide vs ks vars messages
    clear : (y : ℕ) → has whole y ≡ true → has v y ≡ false → has m y ≡ false → (has vars y ≡ false) × (has messages y ≡ false)

  passing : Passes c whole Between
  passing = record {
    place = λ v m vars messages r t u e h. places t u e vars messages r.wide.variables r.wide.messages_in;
    number = λ v m vars messages r x e h. r.numbers_in x e h;
    part = λ v m vars messages r k p e h. r.parts_in k h;
    unknown = λ v m vars messages r y w h. let a = r.clear y w (is-no-variable v m y h) (is-no-message v m y h) in unknown-is vars messages y a.0 a.1;
    goes = λ v m vars messages r y h. (stops_variable y (not-true (has vb y) (λ e. true-false (has v y) (r.base y e) (is-no-variable v m y h))), stops_message y);
    variable = λ v m vars messages r y h. record {
      base = λ x g. or-true-right (x == y) (has v x) (r.base x g);
      numbers_in = λ x e g. elim (either-true (x == y) (has v x) g) [ inl q ↦ or-true-left (x == y) (has vars x) q | inr q ↦ or-true-right (x == y) (has vars x) (r.numbers_in x e q) ];
      parts_in = r.parts_in;
      wide = wide-variable vs ks vars messages y r.wide;
      clear = λ z w g n. let a = r.clear z w (or-right (z == y) (has v z) g) n in (or-both (z == y) (has vars z) (or-left (z == y) (has v z) g) a.0, a.1);
    };
    message = λ v m vars messages r y h. record {
      base = r.base;
      numbers_in = r.numbers_in;
      parts_in = λ k g. elim (either-true (k == y) (has m k) g) [ inl e ↦ or-true-left (k == y) (has messages k) e | inr e ↦ or-true-right (k == y) (has messages k) (r.parts_in k e) ];
      wide = wide-message vs ks vars messages y r.wide;
      clear = λ z w g n. let a = r.clear z w g (or-right (z == y) (has m z) n) in (a.0, or-both (z == y) (has messages z) (or-left (z == y) (has m z) n) a.1);
    };
  }

  pub told-changed : (f : Formula) → ((y : ℕ) → has (bound_names f) y ≡ true → has whole y ≡ true) → is_told_apart vb mb f ≡ true → is_told_apart vs ks (changed c f) ≡ true
  told-changed f binds h = changed-told c whole Between passing f vb mb vs ks binds (record {
    base = λ x g. g;
    numbers_in = numbers;
    parts_in = parts;
    wide = record { variables = λ n m. m; messages_in = λ n m. m };
    clear = λ y w a b. apart y w;
  }) h

module _ (vb vs ks : List ℕ) where
  -- what the formula binds is not known
  abbrev IsClear : Formula → Type 0
  IsClear f = (y : ℕ) → has (bound_names f) y ≡ true → (has vs y ≡ false) × (has ks y ≡ false)

  -- a term for one variable
  new-placed : (x : ℕ) (new : Term) → IsWithin vs ks new → (t u : Term) → put_for_variable x new t ≡ Some u → IsWithin vs ks u
  new-placed x new within (Var y) u e = go (y == x) e
    where
      go : (b : Bool) → (if b then Some new else None) ≡ Some u → IsWithin vs ks u
      go true e = let same : new ≡ u = cc in subst (IsWithin vs ks) same within
      go false e = cc
  new-placed x new within _ u e = cc

  pub told-substituted : (f : Formula) (x : ℕ) (new : Term) → has vb x ≡ true → ((y : ℕ) → has vb y ≡ true → has vs y ≡ true) → IsWithin vs ks new → IsClear f → is_told_apart vb [] f ≡ true → is_told_apart vs ks (substituted f x new) ≡ true
  told-substituted f x new mine stay within clear h =
      told-changed (for_variable x new) vb [] vs ks (bound_names f) (new-placed x new within) (λ y e g. stay y g) (λ k g. absurd (false≢true g))
      (λ y lacks. eqb-other y x (λ e. true-false (has vb y) (ap (has vb) e ∙ mine) lacks)) (λ y. refl) clear f (λ y m. m) h

  -- terms for several variables
  choose-within : (b : Bool) (s t : Term) → IsWithin vs ks s → IsWithin vs ks t → IsWithin vs ks (if b then s else t)
  choose-within true s t h k = h
  choose-within false s t h k = k

  found-within : (old : Term) (ys : List ℕ) (ts : List Term) (x : ℕ) → IsWithin vs ks old → Each (IsWithin vs ks) ts → IsWithin vs ks (term_for old ys ts x)
  found-within old [] ts x h k = h
  found-within old (y ∷ ys) [] x h k = h
  found-within old (y ∷ ys) (t ∷ ts) x h k = found-within (if x == y then t else old) ys ts x (choose-within (x == y) t old k.0 h) k.1

  terms-placed : (xs : List ℕ) (terms : List Term) → Each (IsWithin vs ks) terms → (t u : Term) → put_for_variables xs terms t ≡ Some u → IsWithin vs ks u
  terms-placed xs terms within (Var x) u e = go (has xs x) e
    where
      go : (b : Bool) → (if b then Some (term_for (Num (pos 0)) xs terms x) else None) ≡ Some u → IsWithin vs ks u
      go true e = let same : term_for (Num (pos 0)) xs terms x ≡ u = cc in subst (IsWithin vs ks) same (found-within (Num (pos 0)) xs terms x (λ vars messages p q. refl) within)
      go false e = cc
  terms-placed xs terms within _ u e = cc

  not-put : (b : Bool) (t : Term) → (if b then Some t else None) ≡ None → b ≡ false
  not-put true t e = cc
  not-put false t e = refl

  pub told-put : (f : Formula) (xs : List ℕ) (terms : List Term) → ((y : ℕ) → has vb y ≡ true → has xs y ≡ false → has vs y ≡ true) → Each (IsWithin vs ks) terms → IsClear f → is_told_apart vb [] f ≡ true → is_told_apart vs ks (terms_put f xs terms Own) ≡ true
  told-put f xs terms stay within clear h =
      told-changed (for_variables xs terms Own) vb [] vs ks (bound_names f) (terms-placed xs terms within) (λ y e g. stay y g (not-put (has xs y) (term_for (Num (pos 0)) xs terms y) e)) (λ k g. absurd (false≢true g))
      (λ y lacks. refl) (λ y. refl) clear f (λ y m. m) h

-- ---- formulas of the file

module _ (d : Decls) (vs ks : List ℕ) (clear : (y : ℕ) → has (file_bound d) y ≡ true → nat_le first_name y ≡ true → (has vs y ≡ false) × (has ks y ≡ false)) where
  -- the formula binds what the file binds
  abbrev pub IsFileFree : Formula → Type 0
  IsFileFree f = (y : ℕ) → has (file_bound d) y ≡ false → has (bound_names f) y ≡ false

  in-file : (f : Formula) → IsFileFree f → (y : ℕ) → has (bound_names f) y ≡ true → has (file_bound d) y ≡ true
  in-file f free y m = go (has (file_bound d) y) refl
    where
      go : (b : Bool) → has (file_bound d) y ≡ b → has (file_bound d) y ≡ true
      go true e = e
      go false e = absurd (true-false (has (bound_names f) y) m (free y e))

  pub bound-clear : (f : Formula) (scope : Scope) → FormulaIsKnown scope f → IsFileFree f → (y : ℕ) → has (bound_names f) y ≡ true → (has vs y ≡ false) × (has ks y ≡ false)
  bound-clear f scope known free y m = clear y (in-file f free y m) (bound-large f scope y known m)

  pub inside-of : (f : Formula) (scope : Scope) → FormulaIsKnown scope f → IsFileFree f → ((x : ℕ) → has scope.variables x ≡ true → has vs x ≡ true) → ((k : ℕ) → has scope.messages k ≡ true → has ks k ≡ true) → Inside scope vs ks (bound_names f)
  inside-of f scope known free p q = record { variables = p; messages_in = q; apart = λ y a b m. bound-clear f scope known free y m }

  pub file-told : (f : Formula) (scope : Scope) → FormulaIsKnown scope f → IsFileFree f → ((x : ℕ) → has scope.variables x ≡ true → has vs x ≡ true) → ((k : ℕ) → has scope.messages k ≡ true → has ks k ≡ true) → is_told_apart vs ks f ≡ true
  file-told f scope known free p q = told-known f scope vs ks known (inside-of f scope known free p q)

  -- ---- the facts of a world

  abbrev IsToldFact : Hypothesis → Type 0
  IsToldFact h = is_told_apart vs ks h.formula ≡ true

  closed-told : (f : Formula) (spoken : Lab → Option Protocol) → FormulaIsKnown (record { protocol = spoken; variables = []; messages = [] }) f → IsFileFree f → is_told_apart vs ks f ≡ true
  closed-told f spoken known free = file-told f (record { protocol = spoken; variables = []; messages = [] }) known free (λ x m. absurd (false≢true m)) (λ k m. absurd (false≢true m))

  module _ (formed : IsFormed d) where
    coherence-told : (label : ℕ) (c : Option Formula) → (protocol_at d.inst label).coherence ≡ c → Each IsToldFact (coherence_fact d label c)
    coherence-told label None e = tt
    coherence-told label (Some f) e =
        let k = coherence-known d.inst formed.inst label f e in
        (labelled-told label f vs ks (closed-told f (own_label k.0) k.1 (λ y free. ap (λ c. has (coherence_bound c) y) (sym e) ∙ coherence-free y d free (slice_get d.inst.of label))), tt)

    visible-told : (i : ℕ) (invariant : Invariant) (b : Bool) → slice_get d.invariants i ≡ Some invariant → Each IsToldFact (if b then called invariant.sym invariant.formula ∷ [] else [])
    visible-told i invariant true e =
        (closed-told invariant.formula (file_label d.inst) (formed.invariants i invariant e).formula.0 (λ y free. each-found (λ (v : Invariant). Frees y v.formula) d.invariants i invariant (invariants-free y d free) e), tt)
    visible-told i invariant false e = tt

    pub facts-told : (count : ℕ) (world : World) → Each IsToldFact (facts_of d count world)
    facts-told count world =
        each-append IsToldFact (flat_map (coherence_at d) world.labels) (flat_map (visible_in d world) (take count d.invariants))
        (each-flat IsToldFact (coherence_at d) world.labels (each-has (λ label. Each IsToldFact (coherence_at d label)) world.labels (λ label m. coherence-told label (protocol_at d.inst label).coherence refl)))
        (each-flat IsToldFact (visible_in d world) (take count d.invariants) (each-take (λ v. Each IsToldFact (visible_in d world v)) d.invariants count (λ j v l e. visible-told j v (injects d (world_at d v.world) world) e)))
