-- The linear form of a term has the term's value.
use Rattle.std.proofs.Common.{◌≡◌, ℤ, pos, ◌+ℤ◌, ◌-ℤ◌, ◌*ℤ◌, Bool, true, false, not, ◌&&◌, ◌||◌, if◌then◌else◌, List, [], ◌∷◌, Option, Some, None, refl, sym, ◌∙◌, ap, subst, arith}
use Rattle.std.proofs.Math.IntN.{*ℤ_comm}
use Rattle.std.proofs.lemmas.Int.{ints}
use borrow.Author.Differences.{product_is}
use Rattle.dl_term.specs.declared.syntax.Term.{Term, Num, Word, Var, Field', Row', Len, Msg, Add', Sub', Mul', If', more_of-Term as one, end_of-Term as end}
use Rattle.dl_term.specs.State.{State}
use Rattle.dl_term.specs.Names.{Names}
use Rattle.dl_term.specs.Meaning.{value}
use Rattle.dl_term.specs.Same.{same_term}
use Rattle.dl_term.proofs.SameLemmas.{term-is, is-same_term}
use Rattle.dl_linear.specs.Forms.{constant, product, atom_in, form, is_among}
use Rattle.dl_linear.proofs.Whole.{times-sum, sum-times, assoc}
use Rattle.dl_linear.proofs.Truth.{and-left, and-right, of-not, or-false}

pub term-same : (t : Term) → same_term t t ≡ true
term-same t = is-same_term t t refl

-- the sum of coefficients times values
abbrev pub total : (Term → ℤ) → (Term → ℤ) → List Term → ℤ
total c v [] = pos 0
total c v (x ∷ xs) = c x *ℤ v x +ℤ total c v xs

pub total-none : (v : Term → ℤ) (xs : List Term) → total (λ x. pos 0) v xs ≡ pos 0
total-none v [] = refl
total-none v (x ∷ xs) = omega (arith, ints, total-none v xs, product_is (pos 0) (v x))

pub total-add : (c d v : Term → ℤ) (xs : List Term) → total (λ x. c x +ℤ d x) v xs ≡ total c v xs +ℤ total d v xs
total-add c d v [] = refl
total-add c d v (x ∷ xs) = omega (arith, ints, total-add c d v xs, times-sum (c x) (d x) (v x))

pub times-minus : (a b x : ℤ) → (a -ℤ b) *ℤ x ≡ a *ℤ x -ℤ b *ℤ x
times-minus a b x =
    let whole : (a -ℤ b) +ℤ b ≡ a = omega (arith, ints) in
    let split = sym (times-sum (a -ℤ b) b x) ∙ ap (λ z. z *ℤ x) whole in
    omega (arith, ints, split)

pub total-sub : (c d v : Term → ℤ) (xs : List Term) → total (λ x. c x -ℤ d x) v xs ≡ total c v xs -ℤ total d v xs
total-sub c d v [] = refl
total-sub c d v (x ∷ xs) = omega (arith, ints, total-sub c d v xs, times-minus (c x) (d x) (v x))

pub total-scale : (k : ℤ) (c v : Term → ℤ) (xs : List Term) → total (λ x. k *ℤ c x) v xs ≡ k *ℤ total c v xs
total-scale k c v [] = omega (arith, ints, product_is k (pos 0))
total-scale k c v (x ∷ xs) = omega (arith, ints, total-scale k c v xs, assoc k (c x) (v x), sum-times k (c x *ℤ v x) (total c v xs))

-- no two atoms are the same
abbrev pub distinct : List Term → Bool
distinct [] = true
distinct (x ∷ xs) = not (is_among x xs) && distinct xs

-- each atom of the term is among the atoms
abbrev pub covers : List Term → Term → Bool
covers atoms (Num v) = true
covers atoms (Word sym v) = true
covers atoms (Add' _ (one a end) _ (one b end)) = covers atoms a && covers atoms b
covers atoms (Sub' _ (one a end) _ (one b end)) = covers atoms a && covers atoms b
covers atoms (Mul' s (one a end) t (one b end)) =
    product (λ c k. k) (constant a) (constant b) (covers atoms a) (covers atoms b) (is_among (Mul' s (one a end) t (one b end)) atoms)
covers atoms (Var sym) = is_among (Var sym) atoms
covers atoms (Field' label field s (one node end)) = is_among (Field' label field s (one node end)) atoms
covers atoms (Row' label field s (one node end) t (one index end)) = is_among (Row' label field s (one node end) t (one index end)) atoms
covers atoms (Len label) = is_among (Len label) atoms
covers atoms (Msg msg part) = is_among (Msg msg part) atoms
covers atoms (If' s (one a end) t (one b end) u (one y end) v (one z end)) = is_among (If' s (one a end) t (one b end) u (one y end) v (one z end)) atoms

total-absent : (t : Term) (v : Term → ℤ) (xs : List Term) → is_among t xs ≡ false → total (λ x. atom_in (Some x) t) v xs ≡ pos 0
total-absent t v [] h = refl
total-absent t v (x ∷ xs) h =
    let each = or-false _ _ h in
    ap (λ test. (if test then pos 1 else pos 0) *ℤ v x +ℤ total (λ y. atom_in (Some y) t) v xs) each.0
    ∙ omega (arith, ints, total-absent t v xs each.1, product_is (pos 0) (v x))

one-more : (k : ℤ) → pos 1 *ℤ k +ℤ pos 0 ≡ k
one-more k = omega (arith, ints, product_is (pos 1) k)

none-more : (k n : ℤ) → pos 0 *ℤ k +ℤ n ≡ n
none-more k n = omega (arith, ints, product_is (pos 0) k)

-- the one atom that is the term
pub total-one : (t : Term) (v : Term → ℤ) (xs : List Term) → distinct xs ≡ true → is_among t xs ≡ true → total (λ x. atom_in (Some x) t) v xs ≡ v t
total-one t v [] d h = cc
total-one t v (x ∷ xs) d h = by_test (same_term t x) refl h (total-one t v xs (and-right _ _ d))
  where
    by_test : (test : Bool) → same_term t x ≡ test → (test || is_among t xs) ≡ true → (is_among t xs ≡ true → total (λ y. atom_in (Some y) t) v xs ≡ v t) → atom_in (Some x) t *ℤ v x +ℤ total (λ y. atom_in (Some y) t) v xs ≡ v t
    by_test true e h ih =
        let is : t ≡ x = term-is t x e in
        let absent : is_among t xs ≡ false = subst (λ y. is_among y xs ≡ false) (sym is) (of-not _ (and-left _ _ d)) in
        (λ i. (if e i then pos 1 else pos 0) *ℤ v x +ℤ total-absent t v xs absent i)
        ∙ one-more (v x) ∙ ap v (sym is)
    by_test false e h ih = (λ i. (if e i then pos 1 else pos 0) *ℤ v x +ℤ ih h i) ∙ none-more (v x) (v t)

pub constant-value : (t : Term) (c : ℤ) (names : Names) (state : State) → constant t ≡ Some c → value t names state ≡ c
constant-value (Num v) c names state h = cc
constant-value (Word sym v) c names state h = cc
constant-value _ c names state h = cc

plus-none : (z w : ℤ) → z ≡ w → w ≡ z +ℤ pos 0
plus-none z w e = omega (arith, ints, e)

product-form : (o p : Option ℤ) (va vb oa ob : ℤ) (fa fb itself v : Term → ℤ) (atoms : List Term) (ca cb cs : Bool)
    → ((c : ℤ) → o ≡ Some c → va ≡ c) → ((c : ℤ) → p ≡ Some c → vb ≡ c)
    → (ca ≡ true → va ≡ total fa v atoms +ℤ oa) → (cb ≡ true → vb ≡ total fb v atoms +ℤ ob) → (cs ≡ true → total itself v atoms ≡ va *ℤ vb)
    → product (λ c k. k) o p ca cb cs ≡ true
    → va *ℤ vb ≡ total (λ x. product (λ c k. c *ℤ k) o p (fa x) (fb x) (itself x)) v atoms +ℤ product (λ c k. c *ℤ k) o p oa ob (pos 0)
product-form (Some c) p va vb oa ob fa fb itself v atoms ca cb cs is_a is_b a b s h =
    (λ i. is_a c refl i *ℤ b h i)
    ∙ sum-times c (total fb v atoms) ob
    ∙ ap (λ z. z +ℤ c *ℤ ob) (sym (total-scale c fb v atoms))
product-form None (Some c) va vb oa ob fa fb itself v atoms ca cb cs is_a is_b a b s h =
    *ℤ_comm va vb
    ∙ (λ i. is_b c refl i *ℤ a h i)
    ∙ sum-times c (total fa v atoms) oa
    ∙ ap (λ z. z +ℤ c *ℤ oa) (sym (total-scale c fa v atoms))
product-form None None va vb oa ob fa fb itself v atoms ca cb cs is_a is_b a b s h = plus-none _ _ (s h)

pub value-form : (t : Term) (atoms : List Term) (names : Names) (state : State) → distinct atoms ≡ true → covers atoms t ≡ true → value t names state ≡ total (λ x. form (Some x) t) (λ x. value x names state) atoms +ℤ form None t
value-form (Num v) atoms names state d h = omega (arith, ints, total-none (λ x. value x names state) atoms)
value-form (Word sym v) atoms names state d h = omega (arith, ints, total-none (λ x. value x names state) atoms)
value-form (Add' _ (one a end) _ (one b end)) atoms names state d h =
    let left = value-form a atoms names state d (and-left (covers atoms a) (covers atoms b) h) in
    let right = value-form b atoms names state d (and-right (covers atoms a) (covers atoms b) h) in
    omega (arith, ints, left, right, total-add (λ x. form (Some x) a) (λ x. form (Some x) b) (λ x. value x names state) atoms)
value-form (Sub' _ (one a end) _ (one b end)) atoms names state d h =
    let left = value-form a atoms names state d (and-left (covers atoms a) (covers atoms b) h) in
    let right = value-form b atoms names state d (and-right (covers atoms a) (covers atoms b) h) in
    omega (arith, ints, left, right, total-sub (λ x. form (Some x) a) (λ x. form (Some x) b) (λ x. value x names state) atoms)
value-form (Mul' s (one a end) t (one b end)) atoms names state d h =
    product-form (constant a) (constant b) (value a names state) (value b names state) (form None a) (form None b) (λ x. form (Some x) a) (λ x. form (Some x) b)
    (λ x. atom_in (Some x) (Mul' s (one a end) t (one b end))) (λ x. value x names state) atoms (covers atoms a) (covers atoms b) (is_among (Mul' s (one a end) t (one b end)) atoms)
    (λ c e. constant-value a c names state e) (λ c e. constant-value b c names state e)
    (λ k. value-form a atoms names state d k) (λ k. value-form b atoms names state d k)
    (λ k. total-one (Mul' s (one a end) t (one b end)) (λ x. value x names state) atoms d k)
    h
value-form (Var sym) atoms names state d h = plus-none _ _ (total-one (Var sym) (λ x. value x names state) atoms d h)
value-form (Field' label field s (one node end)) atoms names state d h = plus-none _ _ (total-one (Field' label field s (one node end)) (λ x. value x names state) atoms d h)
value-form (Row' label field s (one node end) t (one index end)) atoms names state d h = plus-none _ _ (total-one (Row' label field s (one node end) t (one index end)) (λ x. value x names state) atoms d h)
value-form (Len label) atoms names state d h = plus-none _ _ (total-one (Len label) (λ x. value x names state) atoms d h)
value-form (Msg msg part) atoms names state d h = plus-none _ _ (total-one (Msg msg part) (λ x. value x names state) atoms d h)
value-form (If' s (one a end) t (one b end) u (one y end) v (one z end)) atoms names state d h = plus-none _ _ (total-one (If' s (one a end) t (one b end) u (one y end) v (one z end)) (λ x. value x names state) atoms d h)
