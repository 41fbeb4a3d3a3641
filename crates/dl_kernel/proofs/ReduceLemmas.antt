-- What the decided `if`s keep true.
use Rattle.std.proofs.Common.{◌≡◌, ℕ, ℤ, pos, ◌+ℤ◌, ◌-ℤ◌, ◌*ℤ◌, Bool, true, false, not, ◌&&◌, ◌||◌, if◌then◌else◌, int_lt, int_le, refl, ◌∙◌, ap, sym, subst}
use Rattle.std.specs.Ordering.{int_eq}
use Rattle.std.proofs.lemmas.Bool.Decides.{Decides-int_eq}
use Rattle.dl_term.specs.declared.syntax.Term.{Term, Num, Word, Var, Field', Row', Len, Msg, Add', Sub', Mul', If', more_of-Term as one, end_of-Term as end}
use Rattle.dl_term.specs.declared.syntax.Formula.{Formula, True, False, Eq, Lt, Le, Not', And', Or', Implies', All', Exists', Each', Any', more_of-Formula as one_formula, end_of-Formula as end_formula}
use Rattle.dl_term.specs.State.{State, field_at}
use Rattle.dl_term.specs.Syntax.{opened}
use Rattle.dl_term.specs.Names.{Meant, Stored, Names, with_number, with_message, label_of}
use Rattle.dl_term.specs.Meaning.{value, holds, every_below, some_below, every_message, some_message}
use Rattle.dl_term.specs.Same.{same_term}
use Rattle.dl_term.proofs.Agree.{skip-number, skip-message}
use Rattle.dl_term.proofs.SameLemmas.{term-is}
use Rattle.dl_kernel.specs.Reduced.{see_variable, see_message, are_these, reduced_in, reduced}

or-false_left : (a b : Bool) → (a || b) ≡ false → a ≡ false
or-false_left true b h = cc
or-false_left false b h = refl

or-false_right : (a b : Bool) → (a || b) ≡ false → b ≡ false
or-false_right true b h = cc
or-false_right false b h = h

holds-choice : (test : Bool) (f g : Formula) (names : Names) (state : State) → (test ≡ false → holds g names state ≡ holds f names state) → holds (if test then f else g) names state ≡ holds f names state
holds-choice true f g names state h = refl
holds-choice false f g names state h = h refl

still-number : (a b : Term) (x : ℕ) (v : ℤ) (names : Names) (state : State) → see_variable a b x ≡ false → (P : ℤ → ℤ → Type 0) → P (value a names state) (value b names state) → P (value a (with_number names x v) state) (value b (with_number names x v) state)
still-number a b x v names state none P h =
    let left = sym (skip-number a x v names state (or-false_left _ _ none)) in
    let right = sym (skip-number b x v names state (or-false_right _ _ none)) in
    subst (λ z. P (value a (with_number names x v) state) z) right (subst (λ z. P z (value b names state)) left h)

still-message : (a b : Term) (m : ℕ) (new : Meant) (names : Names) (state : State) → see_message a b m ≡ false → (P : ℤ → ℤ → Type 0) → P (value a names state) (value b names state) → P (value a (with_message names m new) state) (value b (with_message names m new) state)
still-message a b m new names state none P h =
    let left = sym (skip-message a m new names state (or-false_left _ _ none)) in
    let right = sym (skip-message b m new names state (or-false_right _ _ none)) in
    subst (λ z. P (value a (with_message names m new) state) z) right (subst (λ z. P z (value b names state)) left h)

-- ---- an `if` that is decided

int-eq-back : (v w : ℤ) (equal : Bool) → int_eq v w ≡ equal → int_eq w v ≡ equal
int-eq-back v w true h = (Decides-int_eq w v).1 (sym ((Decides-int_eq v w).0 h))
int-eq-back v w false h = bool-false _ (λ t. let back = (Decides-int_eq v w).1 (sym ((Decides-int_eq w v).0 t)) in let clash = sym h ∙ back in cc)
  where
    bool-false : (b : Bool) → (b ≡ true → ⊥) → b ≡ false
    bool-false true h = absurd (h refl)
    bool-false false h = refl

tested : (p q a b : Term) (names : Names) (state : State) (equal : Bool) → are_these p q a b ≡ true → int_eq (value a names state) (value b names state) ≡ equal → int_eq (value p names state) (value q names state) ≡ equal
tested p q a b names state equal these e = by_case (same_term p a) (same_term q b) refl refl these
  where
    l : (a b : Bool) → (a && b) ≡ true → a ≡ true
    l true b h = refl
    l false b h = cc

    r : (a b : Bool) → (a && b) ≡ true → b ≡ true
    r true b h = h
    r false b h = cc

    back : (same_term p b && same_term q a) ≡ true → int_eq (value p names state) (value q names state) ≡ equal
    back h = (λ i. int_eq (value (term-is p b (l (same_term p b) (same_term q a) h) i) names state) (value (term-is q a (r (same_term p b) (same_term q a) h) i) names state)) ∙ int-eq-back (value a names state) (value b names state) equal e

    by_case : (left right : Bool) → same_term p a ≡ left → same_term q b ≡ right → ((left && right) || (same_term p b && same_term q a)) ≡ true → int_eq (value p names state) (value q names state) ≡ equal
    by_case true true x y h = (λ i. int_eq (value (term-is p a x i) names state) (value (term-is q b y i) names state)) ∙ e
    by_case true false x y h = back h
    by_case false right x y h = back h

decided : (these equal : Bool) (t x y : Term) (test : Bool) (vx vy : ℤ) (names : Names) (state : State) → (these ≡ true → test ≡ equal) → value x names state ≡ vx → value y names state ≡ vy → value t names state ≡ (if test then vx else vy) → value (if these then (if equal then x else y) else t) names state ≡ (if test then vx else vy)
decided true true t x y test vx vy names state h p q e = p ∙ ap (λ b. if b then vx else vy) (sym (h refl))
decided true false t x y test vx vy names state h p q e = q ∙ ap (λ b. if b then vx else vy) (sym (h refl))
decided false equal t x y test vx vy names state h p q e = e

pub value-reduced : (t a b : Term) (equal : Bool) (names : Names) (state : State) → int_eq (value a names state) (value b names state) ≡ equal → value (reduced_in t a b equal) names state ≡ value t names state
unfolding opened
value-reduced (Num v) a b equal names state e = refl
value-reduced (Word sym v) a b equal names state e = refl
value-reduced (Var x) a b equal names state e = refl
value-reduced (Field' label field _ (one node end)) a b equal names state e = λ i. field_at state (label_of names.own label) field (value-reduced node a b equal names state e i) (pos 0)
value-reduced (Row' label field _ (one node end) _ (one index end)) a b equal names state e =
    λ i. field_at state (label_of names.own label) field (value-reduced node a b equal names state e i) (value-reduced index a b equal names state e i)
value-reduced (Len label) a b equal names state e = refl
value-reduced (Msg m part) a b equal names state e = refl
value-reduced (Add' _ (one p end) _ (one q end)) a b equal names state e = λ i. value-reduced p a b equal names state e i +ℤ value-reduced q a b equal names state e i
value-reduced (Sub' _ (one p end) _ (one q end)) a b equal names state e = λ i. value-reduced p a b equal names state e i -ℤ value-reduced q a b equal names state e i
value-reduced (Mul' _ (one p end) _ (one q end)) a b equal names state e = λ i. value-reduced p a b equal names state e i *ℤ value-reduced q a b equal names state e i
value-reduced (If' _ (one p end) _ (one q end) _ (one x end) _ (one y end)) a b equal names state e =
    decided (are_these p q a b) equal (If' tt (one (reduced_in p a b equal) end) tt (one (reduced_in q a b equal) end) tt (one (reduced_in x a b equal) end) tt (one (reduced_in y a b equal) end)) (reduced_in x a b equal) (reduced_in y a b equal)
    (int_eq (value p names state) (value q names state)) (value x names state) (value y names state) names state
    (λ these. tested p q a b names state equal these e)
    (value-reduced x a b equal names state e) (value-reduced y a b equal names state e)
    (λ i. if int_eq (value-reduced p a b equal names state e i) (value-reduced q a b equal names state e i) then value-reduced x a b equal names state e i else value-reduced y a b equal names state e i)

pub holds-reduced : (f : Formula) (a b : Term) (equal : Bool) (names : Names) (state : State) → int_eq (value a names state) (value b names state) ≡ equal → holds (reduced f a b equal) names state ≡ holds f names state
unfolding opened
holds-reduced True a b equal names state e = refl
holds-reduced False a b equal names state e = refl
holds-reduced (Eq p q) a b equal names state e = λ i. int_eq (value-reduced p a b equal names state e i) (value-reduced q a b equal names state e i)
holds-reduced (Lt p q) a b equal names state e = λ i. int_lt (value-reduced p a b equal names state e i) (value-reduced q a b equal names state e i)
holds-reduced (Le p q) a b equal names state e = λ i. int_le (value-reduced p a b equal names state e i) (value-reduced q a b equal names state e i)
holds-reduced (Not' _ (one_formula f end_formula)) a b equal names state e = ap not (holds-reduced f a b equal names state e)
holds-reduced (And' _ (one_formula f end_formula) _ (one_formula g end_formula)) a b equal names state e = λ i. holds-reduced f a b equal names state e i && holds-reduced g a b equal names state e i
holds-reduced (Or' _ (one_formula f end_formula) _ (one_formula g end_formula)) a b equal names state e = λ i. holds-reduced f a b equal names state e i || holds-reduced g a b equal names state e i
holds-reduced (Implies' _ (one_formula f end_formula) _ (one_formula g end_formula)) a b equal names state e = λ i. not (holds-reduced f a b equal names state e i) || holds-reduced g a b equal names state e i
holds-reduced (All' x _ (one_formula f end_formula)) a b equal names state e =
    let each = λ (node : ℕ). holds-choice (see_variable a b x) f (reduced f a b equal) (with_number names x (pos node)) state (λ none. holds-reduced f a b equal (with_number names x (pos node)) state (still-number a b x (pos node) names state none (λ v w. int_eq v w ≡ equal) e)) in
    λ i. every_below state.nodes (λ node. each node i)
holds-reduced (Exists' x _ (one_formula f end_formula)) a b equal names state e =
    let each = λ (node : ℕ). holds-choice (see_variable a b x) f (reduced f a b equal) (with_number names x (pos node)) state (λ none. holds-reduced f a b equal (with_number names x (pos node)) state (still-number a b x (pos node) names state none (λ v w. int_eq v w ≡ equal) e)) in
    λ i. some_below state.nodes (λ node. each node i)
holds-reduced (Each' m label tag _ (one_formula f end_formula)) a b equal names state e =
    let each = λ (id : ℕ). holds-choice (see_message a b m) f (reduced f a b equal) (with_message names m (Stored (label_of names.own label) id)) state (λ none. holds-reduced f a b equal (with_message names m (Stored (label_of names.own label) id)) state (still-message a b m (Stored (label_of names.own label) id) names state none (λ v w. int_eq v w ≡ equal) e)) in
    λ i. every_message state (label_of names.own label) tag (λ id. each id i)
holds-reduced (Any' m label tag _ (one_formula f end_formula)) a b equal names state e =
    let each = λ (id : ℕ). holds-choice (see_message a b m) f (reduced f a b equal) (with_message names m (Stored (label_of names.own label) id)) state (λ none. holds-reduced f a b equal (with_message names m (Stored (label_of names.own label) id)) state (still-message a b m (Stored (label_of names.own label) id) names state none (λ v w. int_eq v w ≡ equal) e)) in
    λ i. some_message state (label_of names.own label) tag (λ id. each id i)
