-- The tests of terms and formulas are true exactly where the model's conditions hold.
use Rattle.std.proofs.Common.{◌≡◌, ℕ, ◌+◌, ◌*◌, ◌^◌, ◌<◌, Bool, true, false, Option, Some, None, List, max, unsigned_abs, refl, sym, ◌∙◌, ap, subst}
use Rattle.std.specs.Prelude.{nat_lt, is_some, if◌then◌else◌}
use Rattle.std.specs.List.{AllByRecursion as Each}
use Rattle.std.proofs.lemmas.Bool.{ltb-true, lt-ltb}
use Rattle.dl_term.specs.declared.syntax.Term.{Term, Num, Word, Var, Field', Row', Len, Msg, Add', Sub', Mul', If', more_of-Term as one, end_of-Term as end}
use Rattle.dl_term.specs.declared.syntax.Formula.{Formula, True, False, Eq, Lt, Le, Not', And', Or', Implies', All', Exists', Each', Any', more_of-Formula as one_formula, end_of-Formula as end_formula}
use Rattle.dl_term.specs.Measures.{bound, IsNarrow, EachIsNarrow}
use Rattle.dl_model.specs.Scopes.{Scope, TermIsKnown, FormulaIsKnown, IsTerm, IsFormula, is_field, is_tag, is_part, is_fresh, is_local, is_local_term, with_variable, with_message}
use Rattle.dl_model.specs.Sorts.{is_i64, has}
use Rattle.dl_model.specs.Spoken.{bound_names}
use Rattle.dl_formed.specs.Known.{term_is_known, formula_is_known, within, after, larger, sum_within, product_within, narrow_bound, is_narrow, each_is_narrow, formula_is_apart, is_term, is_formula, is_term_of_step, is_formula_of_step}
use Rattle.dl_formed.proofs.Deciding.{Says, itself, always, two, three, four, lacks, joined}

-- ---- known

pub known : (scope : Scope) (t : Term) → Says (term_is_known scope t) (TermIsKnown scope t)
known scope (Num v) = itself (is_i64 v)
known scope (Word sym v) = itself (is_i64 v)
known scope (Var sym) = itself (has scope.variables sym)
known scope (Field' label field _ (one node end)) = two (itself (is_field (scope.protocol label) field false)) (known scope node)
known scope (Row' label field _ (one node end) _ (one index end)) =
    three (itself (is_field (scope.protocol label) field true)) (known scope node) (known scope index)
known scope (Len label) = itself (is_some (scope.protocol label))
known scope (Msg msg part) = two (itself (has scope.messages msg)) (itself (is_part part))
known scope (Add' _ (one a end) _ (one b end)) = two (known scope a) (known scope b)
known scope (Sub' _ (one a end) _ (one b end)) = two (known scope a) (known scope b)
known scope (Mul' _ (one a end) _ (one b end)) = two (known scope a) (known scope b)
known scope (If' _ (one a end) _ (one b end) _ (one x end) _ (one y end)) = four (known scope a) (known scope b) (known scope x) (known scope y)

pub formula_known : (scope : Scope) (f : Formula) → Says (formula_is_known scope f) (FormulaIsKnown scope f)
formula_known scope True = always
formula_known scope False = always
formula_known scope (Eq a b) = two (known scope a) (known scope b)
formula_known scope (Lt a b) = two (known scope a) (known scope b)
formula_known scope (Le a b) = two (known scope a) (known scope b)
formula_known scope (Not' _ (one_formula f end_formula)) = formula_known scope f
formula_known scope (And' _ (one_formula f end_formula) _ (one_formula g end_formula)) = two (formula_known scope f) (formula_known scope g)
formula_known scope (Or' _ (one_formula f end_formula) _ (one_formula g end_formula)) = two (formula_known scope f) (formula_known scope g)
formula_known scope (Implies' _ (one_formula f end_formula) _ (one_formula g end_formula)) = two (formula_known scope f) (formula_known scope g)
formula_known scope (All' sym _ (one_formula body end_formula)) = two (itself (is_fresh scope sym)) (formula_known (with_variable scope sym) body)
formula_known scope (Exists' sym _ (one_formula body end_formula)) = two (itself (is_fresh scope sym)) (formula_known (with_variable scope sym) body)
formula_known scope (Each' msg label tag _ (one_formula body end_formula)) =
    three (itself (is_fresh scope msg)) (itself (is_tag (scope.protocol label) tag)) (formula_known (with_message scope msg) body)
formula_known scope (Any' msg label tag _ (one_formula body end_formula)) =
    three (itself (is_fresh scope msg)) (itself (is_tag (scope.protocol label) tag)) (formula_known (with_message scope msg) body)

-- ---- narrow

-- the number is the bound, and the term is narrow
pub record Bounds (t : Term) (n : ℕ) : Type 0 where
  pub narrow : IsNarrow t
  pub is : bound t ≡ n

within-there : (m n : ℕ) → within m ≡ Some n → (m < 2 ^ 127) × (m ≡ n)
within-there m n h = go (nat_lt m (2 ^ 127)) refl h
  where
    go : (b : Bool) → nat_lt m (2 ^ 127) ≡ b → (if b then Some m else None) ≡ Some n → (m < 2 ^ 127) × (m ≡ n)
    go true e k = (ltb-true m (2 ^ 127) e, cc k)
    go false e k = absurd (cc k)

within-back : (m : ℕ) → m < 2 ^ 127 → within m ≡ Some m
within-back m h = ap (λ (b : Bool). if b then Some m else None) (lt-ltb m (2 ^ 127) h)

after-there : (x y : Option ℕ) (n : ℕ) → after x y ≡ Some n → (a : ℕ) × (x ≡ Some a) × (y ≡ Some n)
after-there (Some a) y n h = (a, refl, h)
after-there None y n h = absurd (cc h)

larger-there : (x y : Option ℕ) (n : ℕ) → larger x y ≡ Some n → (a : ℕ) × (b : ℕ) × (x ≡ Some a) × (y ≡ Some b) × (max a b ≡ n)
larger-there (Some a) (Some b) n h = (a, b, refl, refl, cc h)
larger-there (Some a) None n h = absurd (cc h)
larger-there None y n h = absurd (cc h)

sum-there : (x y : Option ℕ) (n : ℕ) → sum_within x y ≡ Some n → (a : ℕ) × (b : ℕ) × (x ≡ Some a) × (y ≡ Some b) × (a + b < 2 ^ 127) × (a + b ≡ n)
sum-there (Some a) (Some b) n h = let w = within-there (a + b) n h in (a, b, refl, refl, w.0, w.1)
sum-there (Some a) None n h = absurd (cc h)
sum-there None y n h = absurd (cc h)

product-there : (x y : Option ℕ) (n : ℕ) → product_within x y ≡ Some n → (a : ℕ) × (b : ℕ) × (x ≡ Some a) × (y ≡ Some b) × (a * b < 2 ^ 127) × (a * b ≡ n)
product-there (Some a) (Some b) n h = let w = within-there (a * b) n h in (a, b, refl, refl, w.0, w.1)
product-there (Some a) None n h = absurd (cc h)
product-there None y n h = absurd (cc h)

both-below : (a b m n : ℕ) (f : ℕ → ℕ → ℕ) → m ≡ a → n ≡ b → f a b < 2 ^ 127 → f m n < 2 ^ 127
both-below a b m n f p q h = subst (λ k. f k n < 2 ^ 127) (sym p) (subst (λ k. f a k < 2 ^ 127) (sym q) h)

both-equal : (a b m n k : ℕ) (f : ℕ → ℕ → ℕ) → m ≡ a → n ≡ b → f a b ≡ k → f m n ≡ k
both-equal a b m n k f p q h = ap (λ x. f x n) p ∙ (ap (λ x. f a x) q ∙ h)

bounds-there : (t : Term) (n : ℕ) → narrow_bound t ≡ Some n → Bounds t n
bounds-there (Num v) n h = let w = within-there (unsigned_abs v) n h in record { narrow = w.0; is = w.1 }
bounds-there (Word sym v) n h = let w = within-there (unsigned_abs v) n h in record { narrow = w.0; is = w.1 }
bounds-there (Var sym) n h = record { narrow = tt; is = cc h }
bounds-there (Len label) n h = record { narrow = tt; is = cc h }
bounds-there (Msg msg part) n h = record { narrow = tt; is = cc h }
bounds-there (Field' label field _ (one node end)) n h =
    let w = after-there (narrow_bound node) (Some (2 ^ 63)) n h in
    record { narrow = (bounds-there node w.0 w.1).narrow; is = cc w.2 }
bounds-there (Row' label field _ (one node end) _ (one index end)) n h =
    let w = after-there (larger (narrow_bound node) (narrow_bound index)) (Some (2 ^ 63)) n h in
    let v = larger-there (narrow_bound node) (narrow_bound index) w.0 w.1 in
    record { narrow = ((bounds-there node v.0 v.2).narrow, (bounds-there index v.1 v.3).narrow); is = cc w.2 }
bounds-there (Add' _ (one a end) _ (one b end)) n h =
    let w = sum-there (narrow_bound a) (narrow_bound b) n h in
    let p = bounds-there a w.0 w.2 in
    let q = bounds-there b w.1 w.3 in
    record { narrow = (p.narrow, q.narrow, both-below w.0 w.1 (bound a) (bound b) ◌+◌ p.is q.is w.4); is = both-equal w.0 w.1 (bound a) (bound b) n ◌+◌ p.is q.is w.5 }
bounds-there (Sub' _ (one a end) _ (one b end)) n h =
    let w = sum-there (narrow_bound a) (narrow_bound b) n h in
    let p = bounds-there a w.0 w.2 in
    let q = bounds-there b w.1 w.3 in
    record { narrow = (p.narrow, q.narrow, both-below w.0 w.1 (bound a) (bound b) ◌+◌ p.is q.is w.4); is = both-equal w.0 w.1 (bound a) (bound b) n ◌+◌ p.is q.is w.5 }
bounds-there (Mul' _ (one a end) _ (one b end)) n h =
    let w = product-there (narrow_bound a) (narrow_bound b) n h in
    let p = bounds-there a w.0 w.2 in
    let q = bounds-there b w.1 w.3 in
    record { narrow = (p.narrow, q.narrow, both-below w.0 w.1 (bound a) (bound b) ◌*◌ p.is q.is w.4); is = both-equal w.0 w.1 (bound a) (bound b) n ◌*◌ p.is q.is w.5 }
bounds-there (If' _ (one a end) _ (one b end) _ (one x end) _ (one y end)) n h =
    let w = after-there (larger (narrow_bound a) (narrow_bound b)) (larger (narrow_bound x) (narrow_bound y)) n h in
    let u = larger-there (narrow_bound a) (narrow_bound b) w.0 w.1 in
    let v = larger-there (narrow_bound x) (narrow_bound y) n w.2 in
    let p = bounds-there x v.0 v.2 in
    let q = bounds-there y v.1 v.3 in
    record {
      narrow = ((bounds-there a u.0 u.2).narrow, (bounds-there b u.1 u.3).narrow, p.narrow, q.narrow);
      is = both-equal v.0 v.1 (bound x) (bound y) n max p.is q.is v.4;
    }

larger-back : (x y : Option ℕ) (a b : ℕ) → x ≡ Some a → y ≡ Some b → larger x y ≡ Some (max a b)
larger-back x y a b p q = ap (λ o. larger o y) p ∙ ap (larger (Some a)) q

after-back : (x y : Option ℕ) (a : ℕ) → x ≡ Some a → after x y ≡ y
after-back x y a p = ap (λ o. after o y) p

sum-back : (x y : Option ℕ) (a b : ℕ) → x ≡ Some a → y ≡ Some b → a + b < 2 ^ 127 → sum_within x y ≡ Some (a + b)
sum-back x y a b p q h = ap (λ o. sum_within o y) p ∙ (ap (sum_within (Some a)) q ∙ within-back (a + b) h)

product-back : (x y : Option ℕ) (a b : ℕ) → x ≡ Some a → y ≡ Some b → a * b < 2 ^ 127 → product_within x y ≡ Some (a * b)
product-back x y a b p q h = ap (λ o. product_within o y) p ∙ (ap (product_within (Some a)) q ∙ within-back (a * b) h)

bounds-back : (t : Term) → IsNarrow t → narrow_bound t ≡ Some (bound t)
bounds-back (Num v) h = within-back (unsigned_abs v) h
bounds-back (Word sym v) h = within-back (unsigned_abs v) h
bounds-back (Var sym) h = refl
bounds-back (Len label) h = refl
bounds-back (Msg msg part) h = refl
bounds-back (Field' label field _ (one node end)) h = after-back (narrow_bound node) (Some (2 ^ 63)) (bound node) (bounds-back node h)
bounds-back (Row' label field _ (one node end) _ (one index end)) h =
    after-back (larger (narrow_bound node) (narrow_bound index)) (Some (2 ^ 63)) (max (bound node) (bound index))
    (larger-back (narrow_bound node) (narrow_bound index) (bound node) (bound index) (bounds-back node h.0) (bounds-back index h.1))
bounds-back (Add' _ (one a end) _ (one b end)) h = sum-back (narrow_bound a) (narrow_bound b) (bound a) (bound b) (bounds-back a h.0) (bounds-back b h.1) h.2
bounds-back (Sub' _ (one a end) _ (one b end)) h = sum-back (narrow_bound a) (narrow_bound b) (bound a) (bound b) (bounds-back a h.0) (bounds-back b h.1) h.2
bounds-back (Mul' _ (one a end) _ (one b end)) h = product-back (narrow_bound a) (narrow_bound b) (bound a) (bound b) (bounds-back a h.0) (bounds-back b h.1) h.2
bounds-back (If' _ (one a end) _ (one b end) _ (one x end) _ (one y end)) h =
    after-back (larger (narrow_bound a) (narrow_bound b)) (larger (narrow_bound x) (narrow_bound y)) (max (bound a) (bound b))
    (larger-back (narrow_bound a) (narrow_bound b) (bound a) (bound b) (bounds-back a h.0) (bounds-back b h.1))
    ∙ larger-back (narrow_bound x) (narrow_bound y) (bound x) (bound y) (bounds-back x h.2) (bounds-back y h.3)

narrow-there : (t : Term) (o : Option ℕ) → narrow_bound t ≡ o → is_some o ≡ true → IsNarrow t
narrow-there t (Some n) h e = (bounds-there t n h).narrow
narrow-there t None h e = absurd (cc e)

pub narrow : (t : Term) → Says (is_narrow t) (IsNarrow t)
narrow t = record { there = narrow-there t (narrow_bound t) refl; back = λ w. ap is_some (bounds-back t w) }

pub each_narrow : (f : Formula) → Says (each_is_narrow f) (EachIsNarrow f)
each_narrow True = always
each_narrow False = always
each_narrow (Eq a b) = two (narrow a) (narrow b)
each_narrow (Lt a b) = two (narrow a) (narrow b)
each_narrow (Le a b) = two (narrow a) (narrow b)
each_narrow (Not' _ (one_formula f end_formula)) = each_narrow f
each_narrow (And' _ (one_formula f end_formula) _ (one_formula g end_formula)) = two (each_narrow f) (each_narrow g)
each_narrow (Or' _ (one_formula f end_formula) _ (one_formula g end_formula)) = two (each_narrow f) (each_narrow g)
each_narrow (Implies' _ (one_formula f end_formula) _ (one_formula g end_formula)) = two (each_narrow f) (each_narrow g)
each_narrow (All' sym _ (one_formula f end_formula)) = each_narrow f
each_narrow (Exists' sym _ (one_formula f end_formula)) = each_narrow f
each_narrow (Each' msg label tag _ (one_formula f end_formula)) = each_narrow f
each_narrow (Any' msg label tag _ (one_formula f end_formula)) = each_narrow f

-- ---- apart

-- a name that is none of these
abbrev pub IsOther : List ℕ → ℕ → Type 0
IsOther names name = has names name ≡ false

pub apart : (names : List ℕ) (f : Formula) → Says (formula_is_apart names f) (Each (IsOther names) (bound_names f))
apart names True = record { there = λ e. tt; back = λ u. refl }
apart names False = record { there = λ e. tt; back = λ u. refl }
apart names (Eq a b) = record { there = λ e. tt; back = λ u. refl }
apart names (Lt a b) = record { there = λ e. tt; back = λ u. refl }
apart names (Le a b) = record { there = λ e. tt; back = λ u. refl }
apart names (Not' _ (one_formula f end_formula)) = apart names f
apart names (And' _ (one_formula f end_formula) _ (one_formula g end_formula)) = joined (IsOther names) (bound_names f) (bound_names g) (apart names f) (apart names g)
apart names (Or' _ (one_formula f end_formula) _ (one_formula g end_formula)) = joined (IsOther names) (bound_names f) (bound_names g) (apart names f) (apart names g)
apart names (Implies' _ (one_formula f end_formula) _ (one_formula g end_formula)) = joined (IsOther names) (bound_names f) (bound_names g) (apart names f) (apart names g)
apart names (All' sym _ (one_formula body end_formula)) = two (lacks (has names sym)) (apart names body)
apart names (Exists' sym _ (one_formula body end_formula)) = two (lacks (has names sym)) (apart names body)
apart names (Each' msg label tag _ (one_formula body end_formula)) = two (lacks (has names msg)) (apart names body)
apart names (Any' msg label tag _ (one_formula body end_formula)) = two (lacks (has names msg)) (apart names body)

-- ---- as a scope asks for them

pub term_says : (scope : Scope) (t : Term) → Says (is_term scope t) (IsTerm scope t)
term_says scope t = two (known scope t) (narrow t)

pub formula_says : (scope : Scope) (f : Formula) → Says (is_formula scope f) (IsFormula scope f)
formula_says scope f = two (formula_known scope f) (each_narrow f)

pub step_term_says : (scope : Scope) (t : Term) → Says (is_term_of_step scope t) (IsTerm scope t × (is_local_term t ≡ true))
step_term_says scope t = two (term_says scope t) (itself (is_local_term t))

pub step_formula_says : (scope : Scope) (f : Formula) → Says (is_formula_of_step scope f) (IsFormula scope f × (is_local f ≡ true))
step_formula_says scope f = two (formula_says scope f) (itself (is_local f))

pub judged-narrow : (scope : Scope) (t : Term) (b : Bool) → b ≡ is_term scope t → b ≡ true → IsNarrow t
judged-narrow scope t b e h = let s = term_says scope t in (s.there (sym e ∙ h)).1
