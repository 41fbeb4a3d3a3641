-- Names that agree wherever a term or a formula leaves a name free give it one value.
use Rattle.std.proofs.Common.{◌≡◌, ℕ, ℤ, pos, ◌+ℤ◌, ◌-ℤ◌, ◌*ℤ◌, Bool, true, false, not, ◌&&◌, ◌||◌, ◌==◌, if◌then◌else◌, int_lt, int_le, Some, length, refl, ◌∙◌, ap, subst, eq-eqb, eqb-true, arith}
use Rattle.std.proofs.Math.Bool.{or-true}
use Rattle.std.specs.Ordering.{int_eq}
use Rattle.dl_term.specs.declared.syntax.Term.{Term, Num, Word, Var, Field', Row', Len, Msg, Add', Sub', Mul', If', more_of-Term as one, end_of-Term as end}
use Rattle.dl_term.specs.declared.syntax.Formula.{Formula, True, False, Eq, Lt, Le, Not', And', Or', Implies', All', Exists', Each', Any', more_of-Formula as one_formula, end_of-Formula as end_formula}
use Rattle.dl_term.specs.State.{State, field_at, soup_at}
use Rattle.dl_term.specs.Names.{Meant, Stored, Names, with_number, with_message, label_of}
use Rattle.dl_term.specs.Meaning.{value, holds, part_in, every_below, some_below, every_message, some_message}
use Rattle.dl_term.proofs.Choices.{not-chosen}
use Rattle.dl_term.specs.Measures.{has_variable, has_message, is_free_variable, is_free_message}

-- two names are the same at the variables and messages that pass these tests, and at `self`
pub record Agree (at_variable at_message : ℕ → Bool) (n m : Names) : Type 0 where
  pub own : n.own ≡ m.own
  pub number : (x : ℕ) → at_variable x ≡ true → n.number x ≡ m.number x
  pub message : (k : ℕ) → at_message k ≡ true → n.message k ≡ m.message k

or-left : (a b : Bool) → a ≡ true → (a || b) ≡ true
or-left a b h = rw h refl

or-right : (a b : Bool) → b ≡ true → (a || b) ≡ true
or-right a b h = rw h (or-true a)

pub Agree-left : (p q p' q' : ℕ → Bool) (n m : Names) → Agree (λ x. p x || q x) (λ x. p' x || q' x) n m → Agree p p' n m
Agree-left p q p' q' n m h = record {
  own = h.own;
  number = λ x e. h.number x (or-left (p x) (q x) e);
  message = λ x e. h.message x (or-left (p' x) (q' x) e);
}

pub Agree-right : (p q p' q' : ℕ → Bool) (n m : Names) → Agree (λ x. p x || q x) (λ x. p' x || q' x) n m → Agree q q' n m
Agree-right p q p' q' n m h = record {
  own = h.own;
  number = λ x e. h.number x (or-right (p x) (q x) e);
  message = λ x e. h.message x (or-right (p' x) (q' x) e);
}

pub value-agree : (t : Term) (n m : Names) (state : State) → Agree (has_variable t) (has_message t) n m → value t n state ≡ value t m state
value-agree (Num v) n m state h = refl
value-agree (Word sym v) n m state h = refl
value-agree (Var sym) n m state h = h.number sym (eq-eqb sym sym refl)
value-agree (Field' label field _ (one node end)) n m state h =
    let v = value-agree node n m state h in
    λ i. field_at state (label_of (h.own i) label) field (v i) (pos 0)
value-agree (Row' label field _ (one node end) _ (one index end)) n m state h =
    let left = Agree-left (has_variable node) (has_variable index) (has_message node) (has_message index) n m h in
    let right = Agree-right (has_variable node) (has_variable index) (has_message node) (has_message index) n m h in
    let v = value-agree node n m state left in
    let w = value-agree index n m state right in
    λ i. field_at state (label_of (h.own i) label) field (v i) (w i)
value-agree (Len label) n m state h = λ i. pos (length (soup_at state (label_of (h.own i) label)))
value-agree (Msg msg part) n m state h = ap (λ o. part_in state o part) (h.message msg (eq-eqb msg msg refl))
value-agree (Add' _ (one a end) _ (one b end)) n m state h =
    let v = value-agree a n m state (Agree-left (has_variable a) (has_variable b) (has_message a) (has_message b) n m h) in
    let w = value-agree b n m state (Agree-right (has_variable a) (has_variable b) (has_message a) (has_message b) n m h) in
    λ i. v i +ℤ w i
value-agree (Sub' _ (one a end) _ (one b end)) n m state h =
    let v = value-agree a n m state (Agree-left (has_variable a) (has_variable b) (has_message a) (has_message b) n m h) in
    let w = value-agree b n m state (Agree-right (has_variable a) (has_variable b) (has_message a) (has_message b) n m h) in
    λ i. v i -ℤ w i
value-agree (Mul' _ (one a end) _ (one b end)) n m state h =
    let v = value-agree a n m state (Agree-left (has_variable a) (has_variable b) (has_message a) (has_message b) n m h) in
    let w = value-agree b n m state (Agree-right (has_variable a) (has_variable b) (has_message a) (has_message b) n m h) in
    λ i. v i *ℤ w i
value-agree (If' _ (one a end) _ (one b end) _ (one x end) _ (one y end)) n m state h =
    let tested = Agree-left (λ s. has_variable a s || has_variable b s) (λ s. has_variable x s || has_variable y s) (λ s. has_message a s || has_message b s) (λ s. has_message x s || has_message y s) n m h in
    let chosen = Agree-right (λ s. has_variable a s || has_variable b s) (λ s. has_variable x s || has_variable y s) (λ s. has_message a s || has_message b s) (λ s. has_message x s || has_message y s) n m h in
    let p = value-agree a n m state (Agree-left (has_variable a) (has_variable b) (has_message a) (has_message b) n m tested) in
    let q = value-agree b n m state (Agree-right (has_variable a) (has_variable b) (has_message a) (has_message b) n m tested) in
    let r = value-agree x n m state (Agree-left (has_variable x) (has_variable y) (has_message x) (has_message y) n m chosen) in
    let s = value-agree y n m state (Agree-right (has_variable x) (has_variable y) (has_message x) (has_message y) n m chosen) in
    λ i. if int_eq (p i) (q i) then r i else s i

-- below a quantifier the names agree also on the one that it binds
chosen-same : {X : Type 0} (test free : Bool) (new a b : X) → (((not test) && free) ≡ true → a ≡ b) → free ≡ true → (if test then new else a) ≡ (if test then new else b)
chosen-same true free new a b h e = refl
chosen-same false free new a b h e = h e

sym-eqb : (x y : ℕ) → (x == y) ≡ (y == x)
sym-eqb x y = grind arith

pub Agree-with_number : (p q : ℕ → Bool) (bound : ℕ) (n m : Names) (new : ℤ) → Agree (λ x. not (bound == x) && p x) q n m → Agree p q (with_number n bound new) (with_number m bound new)
Agree-with_number p q bound n m new h = record {
  own = h.own;
  number = λ x e. chosen-same (x == bound) (p x) new (n.number x) (m.number x) (λ f. h.number x (ap (λ test. not test && p x) (sym-eqb bound x) ∙ f)) e;
  message = h.message;
}

pub Agree-with_message : (p q : ℕ → Bool) (bound : ℕ) (n m : Names) (new : Meant) → Agree p (λ x. not (bound == x) && q x) n m → Agree p q (with_message n bound new) (with_message m bound new)
Agree-with_message p q bound n m new h = record {
  own = h.own;
  number = h.number;
  message = λ x e. chosen-same (x == bound) (q x) (Some new) (n.message x) (m.message x) (λ f. h.message x (ap (λ test. not test && q x) (sym-eqb bound x) ∙ f)) e;
}

pub holds-agree : (f : Formula) (n m : Names) (state : State) → Agree (is_free_variable f) (is_free_message f) n m → holds f n state ≡ holds f m state
holds-agree True n m state h = refl
holds-agree False n m state h = refl
holds-agree (Eq a b) n m state h =
    let v = value-agree a n m state (Agree-left (has_variable a) (has_variable b) (has_message a) (has_message b) n m h) in
    let w = value-agree b n m state (Agree-right (has_variable a) (has_variable b) (has_message a) (has_message b) n m h) in
    λ i. int_eq (v i) (w i)
holds-agree (Lt a b) n m state h =
    let v = value-agree a n m state (Agree-left (has_variable a) (has_variable b) (has_message a) (has_message b) n m h) in
    let w = value-agree b n m state (Agree-right (has_variable a) (has_variable b) (has_message a) (has_message b) n m h) in
    λ i. int_lt (v i) (w i)
holds-agree (Le a b) n m state h =
    let v = value-agree a n m state (Agree-left (has_variable a) (has_variable b) (has_message a) (has_message b) n m h) in
    let w = value-agree b n m state (Agree-right (has_variable a) (has_variable b) (has_message a) (has_message b) n m h) in
    λ i. int_le (v i) (w i)
holds-agree (Not' _ (one_formula f end_formula)) n m state h = ap not (holds-agree f n m state h)
holds-agree (And' _ (one_formula f end_formula) _ (one_formula g end_formula)) n m state h =
    let v = holds-agree f n m state (Agree-left (is_free_variable f) (is_free_variable g) (is_free_message f) (is_free_message g) n m h) in
    let w = holds-agree g n m state (Agree-right (is_free_variable f) (is_free_variable g) (is_free_message f) (is_free_message g) n m h) in
    λ i. v i && w i
holds-agree (Or' _ (one_formula f end_formula) _ (one_formula g end_formula)) n m state h =
    let v = holds-agree f n m state (Agree-left (is_free_variable f) (is_free_variable g) (is_free_message f) (is_free_message g) n m h) in
    let w = holds-agree g n m state (Agree-right (is_free_variable f) (is_free_variable g) (is_free_message f) (is_free_message g) n m h) in
    λ i. v i || w i
holds-agree (Implies' _ (one_formula f end_formula) _ (one_formula g end_formula)) n m state h =
    let v = holds-agree f n m state (Agree-left (is_free_variable f) (is_free_variable g) (is_free_message f) (is_free_message g) n m h) in
    let w = holds-agree g n m state (Agree-right (is_free_variable f) (is_free_variable g) (is_free_message f) (is_free_message g) n m h) in
    λ i. not (v i) || w i
holds-agree (All' sym _ (one_formula f end_formula)) n m state h =
    let v = λ (node : ℕ). holds-agree f (with_number n sym (pos node)) (with_number m sym (pos node)) state (Agree-with_number (is_free_variable f) (is_free_message f) sym n m (pos node) h) in
    λ i. every_below state.nodes (λ node. v node i)
holds-agree (Exists' sym _ (one_formula f end_formula)) n m state h =
    let v = λ (node : ℕ). holds-agree f (with_number n sym (pos node)) (with_number m sym (pos node)) state (Agree-with_number (is_free_variable f) (is_free_message f) sym n m (pos node) h) in
    λ i. some_below state.nodes (λ node. v node i)
holds-agree (Each' msg label tag _ (one_formula f end_formula)) n m state h =
    let v = λ (id : ℕ). holds-agree f (with_message n msg (Stored (label_of n.own label) id)) (with_message m msg (Stored (label_of n.own label) id)) state (Agree-with_message (is_free_variable f) (is_free_message f) msg n m (Stored (label_of n.own label) id) h) in
    (λ i. every_message state (label_of n.own label) tag (λ id. v id i))
    ∙ (λ i. every_message state (label_of (h.own i) label) tag (λ id. holds f (with_message m msg (Stored (label_of (h.own i) label) id)) state))
holds-agree (Any' msg label tag _ (one_formula f end_formula)) n m state h =
    let v = λ (id : ℕ). holds-agree f (with_message n msg (Stored (label_of n.own label) id)) (with_message m msg (Stored (label_of n.own label) id)) state (Agree-with_message (is_free_variable f) (is_free_message f) msg n m (Stored (label_of n.own label) id) h) in
    (λ i. some_message state (label_of n.own label) tag (λ id. v id i))
    ∙ (λ i. some_message state (label_of (h.own i) label) tag (λ id. holds f (with_message m msg (Stored (label_of (h.own i) label) id)) state))

-- a term that has no such variable, or message, does not see it
pub skip-number : (u : Term) (y : ℕ) (k : ℤ) (names : Names) (state : State) → has_variable u y ≡ false → value u (with_number names y k) state ≡ value u names state
skip-number u y k names state none =
    value-agree u (with_number names y k) names state (record {
      own = refl;
      number = λ z has. not-chosen (z == y) k (names.number z) (λ same. let there = subst (λ n. has_variable u n ≡ true) (eqb-true z y same) has in (cc));
      message = λ m has. refl;
    })

pub skip-message : (u : Term) (m : ℕ) (new : Meant) (names : Names) (state : State) → has_message u m ≡ false → value u (with_message names m new) state ≡ value u names state
skip-message u m new names state none =
    value-agree u (with_message names m new) names state (record {
      own = refl;
      number = λ z has. refl;
      message = λ z has. not-chosen (z == m) (Some new) (names.message z) (λ same. let there = subst (λ n. has_message u n ≡ true) (eqb-true z m same) has in (cc));
    })
