-- Expressions and tests read names alone, and a formula with an expression put for a variable is known where the formula is.
use Rattle.std.proofs.Common.{◌≡◌, ℕ, ◌+ℤ◌, ◌-ℤ◌, ◌*ℤ◌, Bool, true, false, not, ◌&&◌, ◌||◌, ◌==◌, if◌then◌else◌, int_lt, int_le, Option, Some, None, unwrap_or, List, [], ◌∷◌, ◌++◌, refl, ap, ◌∙◌, eq-eqb}
use mathlib.Core.Path.{ap₂}
use Rattle.std.proofs.lemmas.Bool.{false≢true}
use Rattle.std.specs.Prelude.{nat_le}
use Rattle.std.specs.Ordering.{int_eq}
use Rattle.dl_term.specs.declared.syntax.Lab.{Lab}
use Rattle.dl_term.specs.declared.syntax.Term.{Term, Num, Word, Var, Field', Row', Len, Msg, Add', Sub', Mul', If', more_of-Term as one, end_of-Term as end}
use Rattle.dl_term.specs.declared.syntax.Formula.{Formula, True, False, Eq, Lt, Le, Not', And', Or', Implies', All', Exists', Each', Any', more_of-Formula as one_formula, end_of-Formula as end_formula}
use Rattle.dl_term.specs.Syntax.{opened}
use Rattle.dl_term.specs.State.{State}
use Rattle.dl_term.specs.Names.{Names}
use Rattle.dl_term.specs.Meaning.{value, holds}
use Rattle.dl_term.specs.Measures.{has_message}
use Rattle.dl_model.specs.declared.protocol.Protocol.{Protocol}
use Rattle.dl_model.specs.Sorts.{has}
use Rattle.dl_model.specs.Spoken.{bound_names}
use Rattle.dl_model.specs.Words.{first_name}
use Rattle.dl_model.specs.Scopes.{Scope, no_label, is_fresh, TermIsKnown, FormulaIsKnown}
use Rattle.dl_model.proofs.Small.{and-left, and-right, and-both, or-right, or-both, or-true-left, or-true-right, eqb-other}
use Rattle.dl_subst.specs.Change.{changed_term, changed}
use Rattle.dl_subst.specs.Substitution.{for_variable, substituted}
use Rattle.dl_inv.proofs.Lists.{has-front, has-back, true-false}
use Rattle.dl_programs.proofs.Known.{binds-none}

-- no label may be named
abbrev pub bare : List ℕ → Scope
bare variables = record { protocol = no_label; variables = variables; messages = [] }

pub term-pure : (t : Term) (variables : List ℕ) (names : Names) (s r : State) → TermIsKnown (bare variables) t → value t names s ≡ value t names r
term-pure (Num v) variables names s r h = refl
term-pure (Word x v) variables names s r h = refl
term-pure (Var x) variables names s r h = refl
term-pure (Field' l f _ (one node end)) variables names s r h = absurd (false≢true h.0)
term-pure (Row' l f _ (one node end) _ (one index end)) variables names s r h = absurd (false≢true h.0)
term-pure (Len l) variables names s r h = absurd (false≢true h)
term-pure (Msg m part) variables names s r h = absurd (false≢true h.0)
term-pure (Add' _ (one a end) _ (one b end)) variables names s r h = ap₂ ◌+ℤ◌ (term-pure a variables names s r h.0) (term-pure b variables names s r h.1)
term-pure (Sub' _ (one a end) _ (one b end)) variables names s r h = ap₂ ◌-ℤ◌ (term-pure a variables names s r h.0) (term-pure b variables names s r h.1)
term-pure (Mul' _ (one a end) _ (one b end)) variables names s r h = ap₂ ◌*ℤ◌ (term-pure a variables names s r h.0) (term-pure b variables names s r h.1)
term-pure (If' _ (one a end) _ (one b end) _ (one x end) _ (one y end)) variables names s r h =
    let p = term-pure a variables names s r h.0 in
    let q = term-pure b variables names s r h.1 in
    let u = term-pure x variables names s r h.2 in
    let v = term-pure y variables names s r h.3 in
    λ j. if int_eq (p j) (q j) then u j else v j

pub term-speechless : (t : Term) (variables : List ℕ) (m : ℕ) → TermIsKnown (bare variables) t → has_message t m ≡ false
term-speechless (Num v) variables m h = refl
term-speechless (Word x v) variables m h = refl
term-speechless (Var x) variables m h = refl
term-speechless (Field' l f _ (one node end)) variables m h = absurd (false≢true h.0)
term-speechless (Row' l f _ (one node end) _ (one index end)) variables m h = absurd (false≢true h.0)
term-speechless (Len l) variables m h = refl
term-speechless (Msg k part) variables m h = absurd (false≢true h.0)
term-speechless (Add' _ (one a end) _ (one b end)) variables m h = or-both _ _ (term-speechless a variables m h.0) (term-speechless b variables m h.1)
term-speechless (Sub' _ (one a end) _ (one b end)) variables m h = or-both _ _ (term-speechless a variables m h.0) (term-speechless b variables m h.1)
term-speechless (Mul' _ (one a end) _ (one b end)) variables m h = or-both _ _ (term-speechless a variables m h.0) (term-speechless b variables m h.1)
term-speechless (If' _ (one a end) _ (one b end) _ (one x end) _ (one y end)) variables m h =
    or-both _ _ (or-both _ _ (term-speechless a variables m h.0) (term-speechless b variables m h.1)) (or-both _ _ (term-speechless x variables m h.2) (term-speechless y variables m h.3))

-- an expression is known in each scope that has its variables
pub term-wide : (t : Term) (variables : List ℕ) (scope : Scope) → TermIsKnown (bare variables) t → ((x : ℕ) → has variables x ≡ true → has scope.variables x ≡ true) → TermIsKnown scope t
term-wide (Num v) variables scope h w = h
term-wide (Word x v) variables scope h w = h
term-wide (Var x) variables scope h w = w x h
term-wide (Field' l f _ (one node end)) variables scope h w = absurd (false≢true h.0)
term-wide (Row' l f _ (one node end) _ (one index end)) variables scope h w = absurd (false≢true h.0)
term-wide (Len l) variables scope h w = absurd (false≢true h)
term-wide (Msg m part) variables scope h w = absurd (false≢true h.0)
term-wide (Add' _ (one a end) _ (one b end)) variables scope h w = (term-wide a variables scope h.0 w, term-wide b variables scope h.1 w)
term-wide (Sub' _ (one a end) _ (one b end)) variables scope h w = (term-wide a variables scope h.0 w, term-wide b variables scope h.1 w)
term-wide (Mul' _ (one a end) _ (one b end)) variables scope h w = (term-wide a variables scope h.0 w, term-wide b variables scope h.1 w)
term-wide (If' _ (one a end) _ (one b end) _ (one x end) _ (one y end)) variables scope h w =
    (term-wide a variables scope h.0 w, term-wide b variables scope h.1 w, term-wide x variables scope h.2 w, term-wide y variables scope h.3 w)

-- ---- tests

nil-left : (xs ys : List ℕ) → xs ++ ys ≡ [] → xs ≡ []
nil-left [] ys e = refl
nil-left (x ∷ xs) ys e = cc

nil-right : (xs ys : List ℕ) → xs ++ ys ≡ [] → ys ≡ []
nil-right [] ys e = e
nil-right (x ∷ xs) ys e = cc

pub test-pure : (f : Formula) (variables : List ℕ) (names : Names) (s r : State) → FormulaIsKnown (bare variables) f → bound_names f ≡ [] → holds f names s ≡ holds f names r
test-pure True variables names s r h e = refl
test-pure False variables names s r h e = refl
test-pure (Eq a b) variables names s r h e = ap₂ int_eq (term-pure a variables names s r h.0) (term-pure b variables names s r h.1)
test-pure (Lt a b) variables names s r h e = ap₂ int_lt (term-pure a variables names s r h.0) (term-pure b variables names s r h.1)
test-pure (Le a b) variables names s r h e = ap₂ int_le (term-pure a variables names s r h.0) (term-pure b variables names s r h.1)
test-pure (Not' _ (one_formula f end_formula)) variables names s r h e = ap not (test-pure f variables names s r h e)
test-pure (And' _ (one_formula f end_formula) _ (one_formula g end_formula)) variables names s r h e =
    ap₂ ◌&&◌ (test-pure f variables names s r h.0 (nil-left (bound_names f) (bound_names g) e)) (test-pure g variables names s r h.1 (nil-right (bound_names f) (bound_names g) e))
test-pure (Or' _ (one_formula f end_formula) _ (one_formula g end_formula)) variables names s r h e =
    ap₂ ◌||◌ (test-pure f variables names s r h.0 (nil-left (bound_names f) (bound_names g) e)) (test-pure g variables names s r h.1 (nil-right (bound_names f) (bound_names g) e))
test-pure (Implies' _ (one_formula f end_formula) _ (one_formula g end_formula)) variables names s r h e =
    ap₂ (λ p q. not p || q) (test-pure f variables names s r h.0 (nil-left (bound_names f) (bound_names g) e)) (test-pure g variables names s r h.1 (nil-right (bound_names f) (bound_names g) e))
test-pure (All' x _ (one_formula f end_formula)) variables names s r h e = cc
test-pure (Exists' x _ (one_formula f end_formula)) variables names s r h e = cc
test-pure (Each' m label tag _ (one_formula f end_formula)) variables names s r h e = cc
test-pure (Any' m label tag _ (one_formula f end_formula)) variables names s r h e = cc

pub test-wide : (f : Formula) (variables : List ℕ) (scope : Scope) → FormulaIsKnown (bare variables) f → bound_names f ≡ [] → ((x : ℕ) → has variables x ≡ true → has scope.variables x ≡ true) → FormulaIsKnown scope f
test-wide True variables scope h e w = tt
test-wide False variables scope h e w = tt
test-wide (Eq a b) variables scope h e w = (term-wide a variables scope h.0 w, term-wide b variables scope h.1 w)
test-wide (Lt a b) variables scope h e w = (term-wide a variables scope h.0 w, term-wide b variables scope h.1 w)
test-wide (Le a b) variables scope h e w = (term-wide a variables scope h.0 w, term-wide b variables scope h.1 w)
test-wide (Not' _ (one_formula f end_formula)) variables scope h e w = test-wide f variables scope h e w
test-wide (And' _ (one_formula f end_formula) _ (one_formula g end_formula)) variables scope h e w =
    (test-wide f variables scope h.0 (nil-left (bound_names f) (bound_names g) e) w, test-wide g variables scope h.1 (nil-right (bound_names f) (bound_names g) e) w)
test-wide (Or' _ (one_formula f end_formula) _ (one_formula g end_formula)) variables scope h e w =
    (test-wide f variables scope h.0 (nil-left (bound_names f) (bound_names g) e) w, test-wide g variables scope h.1 (nil-right (bound_names f) (bound_names g) e) w)
test-wide (Implies' _ (one_formula f end_formula) _ (one_formula g end_formula)) variables scope h e w =
    (test-wide f variables scope h.0 (nil-left (bound_names f) (bound_names g) e) w, test-wide g variables scope h.1 (nil-right (bound_names f) (bound_names g) e) w)
test-wide (All' x _ (one_formula f end_formula)) variables scope h e w = absurd (cc)
test-wide (Exists' x _ (one_formula f end_formula)) variables scope h e w = absurd (cc)
test-wide (Each' m label tag _ (one_formula f end_formula)) variables scope h e w = absurd (cc)
test-wide (Any' m label tag _ (one_formula f end_formula)) variables scope h e w = absurd (cc)

-- ---- an expression put for a variable

not-false : (b : Bool) → not b ≡ true → b ≡ false
not-false true e = cc
not-false false e = refl

not-of : (b : Bool) → b ≡ false → not b ≡ true
not-of true e = cc
not-of false e = refl

-- a binder is fresh among other variables that lack it
fresh-among : (protocol : Lab → Option Protocol) (variables others messages : List ℕ) (y : ℕ) → is_fresh (record { protocol = protocol; variables = variables; messages = messages }) y ≡ true → has others y ≡ false
    → is_fresh (record { protocol = protocol; variables = others; messages = messages }) y ≡ true
fresh-among protocol variables others messages y h lacks =
    and-both (nat_le first_name y) (not (has others y || has messages y)) (and-left (nat_le first_name y) (not (has variables y || has messages y)) h)
    (not-of (has others y || has messages y) (or-both (has others y) (has messages y) lacks (or-right (has variables y) (has messages y) (not-false _ (and-right (nat_le first_name y) (not (has variables y || has messages y)) h)))))

module _ (protocol : Lab → Option Protocol) (x : ℕ) (new : Term) (own : List ℕ) (expression : TermIsKnown (bare own) new) where
  -- the variables but for the one that goes are among the others, and so are those of the expression
  pub record Moves (variables others : List ℕ) : Type 0 where
    pub stay : (z : ℕ) → has variables z ≡ true → (z == x) ≡ false → has others z ≡ true
    pub come : (z : ℕ) → has own z ≡ true → has others z ≡ true

  -- what is bound is none of the others, and not the one that goes
  abbrev Beside : List ℕ → List ℕ → Type 0
  Beside bound others = (y : ℕ) → has bound y ≡ true → (has others y ≡ false) × ((y == x) ≡ false)

  moves-under : (y : ℕ) (variables others : List ℕ) → Moves variables others → Moves (y ∷ variables) (y ∷ others)
  moves-under y variables others m = record {
    stay = λ z there other. at (z == y) z there other;
    come = λ z there. or-true-right (z == y) (has others z) (m.come z there);
  }
    where
      at : (b : Bool) (z : ℕ) → (b || has variables z) ≡ true → (z == x) ≡ false → (b || has others z) ≡ true
      at true z there other = refl
      at false z there other = m.stay z there other

  variable-known : (b : Bool) (y : ℕ) (variables others messages : List ℕ) → (y == x) ≡ b → has variables y ≡ true → Moves variables others
      → TermIsKnown (record { protocol = protocol; variables = others; messages = messages }) (unwrap_or (if b then Some new else None) (Var y))
  variable-known true y variables others messages e h m = term-wide new own (record { protocol = protocol; variables = others; messages = messages }) expression m.come
  variable-known false y variables others messages e h m = m.stay y h e

  term-known : (t : Term) (variables others messages : List ℕ) → TermIsKnown (record { protocol = protocol; variables = variables; messages = messages }) t → Moves variables others
      → TermIsKnown (record { protocol = protocol; variables = others; messages = messages }) (changed_term (for_variable x new) t)
  unfolding opened
  term-known (Num v) variables others messages h m = h
  term-known (Word s v) variables others messages h m = h
  term-known (Var y) variables others messages h m = variable-known (y == x) y variables others messages refl h m
  term-known (Field' l f _ (one node end)) variables others messages h m = (h.0, term-known node variables others messages h.1 m)
  term-known (Row' l f _ (one node end) _ (one index end)) variables others messages h m = (h.0, term-known node variables others messages h.1 m, term-known index variables others messages h.2 m)
  term-known (Len l) variables others messages h m = h
  term-known (Msg k part) variables others messages h m = h
  term-known (Add' _ (one a end) _ (one b end)) variables others messages h m = (term-known a variables others messages h.0 m, term-known b variables others messages h.1 m)
  term-known (Sub' _ (one a end) _ (one b end)) variables others messages h m = (term-known a variables others messages h.0 m, term-known b variables others messages h.1 m)
  term-known (Mul' _ (one a end) _ (one b end)) variables others messages h m = (term-known a variables others messages h.0 m, term-known b variables others messages h.1 m)
  term-known (If' _ (one a end) _ (one b end) _ (one c end) _ (one d end)) variables others messages h m =
      (term-known a variables others messages h.0 m, term-known b variables others messages h.1 m, term-known c variables others messages h.2 m, term-known d variables others messages h.3 m)

  beside-front : (xs ys others : List ℕ) → Beside (xs ++ ys) others → Beside xs others
  beside-front xs ys others h y there = h y (has-front xs ys y there)

  beside-back : (xs ys others : List ℕ) → Beside (xs ++ ys) others → Beside ys others
  beside-back xs ys others h y there = h y (has-back xs ys y there)

  beside-rest : (y : ℕ) (ys others : List ℕ) → Beside (y ∷ ys) others → Beside ys others
  beside-rest y ys others h z there = h z (or-true-right (z == y) (has ys z) there)

  beside-first : (y : ℕ) (ys others : List ℕ) → Beside (y ∷ ys) others → (has others y ≡ false) × ((y == x) ≡ false)
  beside-first y ys others h = h y (or-true-left (y == y) (has ys y) (eq-eqb y y refl))

  -- below a binder, which its body does not bind again
  beside-under : (y : ℕ) (ys others : List ℕ) → has ys y ≡ false → Beside ys others → Beside ys (y ∷ others)
  beside-under y ys others once h z there =
      (or-both (z == y) (has others z) (eqb-other z y (λ e. true-false (has ys z) there (ap (has ys) e ∙ once))) (h z there).0, (h z there).1)

  known-if : (b : Bool) (f g : Formula) (scope : Scope) → b ≡ false → FormulaIsKnown scope g → FormulaIsKnown scope (if b then f else g)
  known-if true f g scope e h = absurd (cc)
  known-if false f g scope e h = h

  pub known-substituted : (f : Formula) (variables others messages : List ℕ) → FormulaIsKnown (record { protocol = protocol; variables = variables; messages = messages }) f → Moves variables others → Beside (bound_names f) others
      → FormulaIsKnown (record { protocol = protocol; variables = others; messages = messages }) (substituted f x new)
  unfolding opened
  known-substituted True variables others messages h m b = tt
  known-substituted False variables others messages h m b = tt
  known-substituted (Eq s t) variables others messages h m b = (term-known s variables others messages h.0 m, term-known t variables others messages h.1 m)
  known-substituted (Lt s t) variables others messages h m b = (term-known s variables others messages h.0 m, term-known t variables others messages h.1 m)
  known-substituted (Le s t) variables others messages h m b = (term-known s variables others messages h.0 m, term-known t variables others messages h.1 m)
  known-substituted (Not' _ (one_formula f end_formula)) variables others messages h m b = known-substituted f variables others messages h m b
  known-substituted (And' _ (one_formula f end_formula) _ (one_formula g end_formula)) variables others messages h m b =
      (known-substituted f variables others messages h.0 m (beside-front (bound_names f) (bound_names g) others b), known-substituted g variables others messages h.1 m (beside-back (bound_names f) (bound_names g) others b))
  known-substituted (Or' _ (one_formula f end_formula) _ (one_formula g end_formula)) variables others messages h m b =
      (known-substituted f variables others messages h.0 m (beside-front (bound_names f) (bound_names g) others b), known-substituted g variables others messages h.1 m (beside-back (bound_names f) (bound_names g) others b))
  known-substituted (Implies' _ (one_formula f end_formula) _ (one_formula g end_formula)) variables others messages h m b =
      (known-substituted f variables others messages h.0 m (beside-front (bound_names f) (bound_names g) others b), known-substituted g variables others messages h.1 m (beside-back (bound_names f) (bound_names g) others b))
  known-substituted (All' y _ (one_formula f end_formula)) variables others messages h m b =
      let first = beside-first y (bound_names f) others b in
      let once = binds-none f (record { protocol = protocol; variables = y ∷ variables; messages = messages }) y h.1 (or-true-left (y == y) (has variables y) (eq-eqb y y refl)) in (
        fresh-among protocol variables others messages y h.0 first.0,
        known-if (y == x) f (changed (for_variable x new) f) (record { protocol = protocol; variables = y ∷ others; messages = messages }) first.1
            (known-substituted f (y ∷ variables) (y ∷ others) messages h.1 (moves-under y variables others m) (beside-under y (bound_names f) others once (beside-rest y (bound_names f) others b))),
      )
  known-substituted (Exists' y _ (one_formula f end_formula)) variables others messages h m b =
      let first = beside-first y (bound_names f) others b in
      let once = binds-none f (record { protocol = protocol; variables = y ∷ variables; messages = messages }) y h.1 (or-true-left (y == y) (has variables y) (eq-eqb y y refl)) in (
        fresh-among protocol variables others messages y h.0 first.0,
        known-if (y == x) f (changed (for_variable x new) f) (record { protocol = protocol; variables = y ∷ others; messages = messages }) first.1
            (known-substituted f (y ∷ variables) (y ∷ others) messages h.1 (moves-under y variables others m) (beside-under y (bound_names f) others once (beside-rest y (bound_names f) others b))),
      )
  known-substituted (Each' k label tag _ (one_formula f end_formula)) variables others messages h m b =
      let first = beside-first k (bound_names f) others b in
      (fresh-among protocol variables others messages k h.0 first.0, h.1, known-substituted f variables others (k ∷ messages) h.2 m (beside-rest k (bound_names f) others b))
  known-substituted (Any' k label tag _ (one_formula f end_formula)) variables others messages h m b =
      let first = beside-first k (bound_names f) others b in
      (fresh-among protocol variables others messages k h.0 first.0, h.1, known-substituted f variables others (k ∷ messages) h.2 m (beside-rest k (bound_names f) others b))
