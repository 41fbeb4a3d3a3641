-- What lies between the names of a changed formula and those of the formula, for each of the four changes.
use Rattle.std.proofs.Common.{◌≡◌, ℕ, ℤ, pos, ◌+ℤ◌, ◌-ℤ◌, ◌*ℤ◌, Bool, true, false, ◌||◌, ◌==◌, if◌then◌else◌, Option, Some, None, unwrap_or, length, refl, ◌∙◌, ap, sym, eq-eqb, eqb-true}
use Rattle.std.specs.Ordering.{int_eq}
use Rattle.dl_term.specs.declared.syntax.Lab.{Lab}
use Rattle.dl_term.specs.declared.syntax.Lab.TheVariants.{Own, At}
use Rattle.dl_term.specs.declared.syntax.Part.{Part}
use Rattle.dl_term.specs.declared.syntax.Term.{Term, Num, Word, Var, Field', Row', Len, Msg, Add', Sub', Mul', If', more_of-Term as one, end_of-Term as end}
use Rattle.dl_term.specs.declared.syntax.Formula.{Formula}
use Rattle.dl_term.specs.State.{State, field_at, soup_at}
use Rattle.dl_term.specs.Names.{Meant, Given, Names, with_number, with_message, label_of}
use Rattle.dl_term.specs.Meaning.{value, holds, part_in}
use Rattle.dl_term.specs.Measures.{has_variable, has_message}
use Rattle.dl_term.specs.Same.{same_term}
use Rattle.dl_term.proofs.Agree.{value-agree, holds-agree}
use Rattle.dl_term.proofs.SameLemmas.{term-is}
use Rattle.dl_subst.specs.declared.message.NewMessage.{NewMessage}
use Rattle.dl_subst.specs.Change.{mentions, and_name}
use Rattle.dl_subst.specs.Substitution.{put_for_variable, for_variable, new_part, put_for_message, for_message, for_term, label_for, for_own}
use Rattle.dl_subst.proofs.Changed.{Keeps, or-false-left, or-false-right}

-- names that differ from those around only where a quantifier binds them
pub record Unbound (variable message : ℕ → Bool) (new base : Names) : Type 0 where
  pub own : new.own ≡ base.own
  pub numbers : (z : ℕ) → variable z ≡ false → new.number z ≡ base.number z
  pub messages : (k : ℕ) → message k ≡ false → new.message k ≡ base.message k

pub value-unbound : (u : Term) (v m : ℕ → Bool) (new base : Names) (state : State) → Unbound v m new base → mentions v m u ≡ false → value u new state ≡ value u base state
value-unbound (Num n) v m new base state h clear = refl
value-unbound (Word x n) v m new base state h clear = refl
value-unbound (Var x) v m new base state h clear = h.numbers x clear
value-unbound (Field' label field _ (one node end)) v m new base state h clear =
    let p = value-unbound node v m new base state h clear in
    λ i. field_at state (label_of (h.own i) label) field (p i) (pos 0)
value-unbound (Row' label field _ (one node end) _ (one index end)) v m new base state h clear =
    let p = value-unbound node v m new base state h (or-false-left _ _ clear) in
    let q = value-unbound index v m new base state h (or-false-right _ _ clear) in
    λ i. field_at state (label_of (h.own i) label) field (p i) (q i)
value-unbound (Len label) v m new base state h clear = λ i. pos (length (soup_at state (label_of (h.own i) label)))
value-unbound (Msg k part) v m new base state h clear = ap (λ o. part_in state o part) (h.messages k clear)
value-unbound (Add' _ (one a end) _ (one b end)) v m new base state h clear =
    let p = value-unbound a v m new base state h (or-false-left _ _ clear) in
    let q = value-unbound b v m new base state h (or-false-right _ _ clear) in
    λ i. p i +ℤ q i
value-unbound (Sub' _ (one a end) _ (one b end)) v m new base state h clear =
    let p = value-unbound a v m new base state h (or-false-left _ _ clear) in
    let q = value-unbound b v m new base state h (or-false-right _ _ clear) in
    λ i. p i -ℤ q i
value-unbound (Mul' _ (one a end) _ (one b end)) v m new base state h clear =
    let p = value-unbound a v m new base state h (or-false-left _ _ clear) in
    let q = value-unbound b v m new base state h (or-false-right _ _ clear) in
    λ i. p i *ℤ q i
value-unbound (If' _ (one a end) _ (one b end) _ (one x end) _ (one y end)) v m new base state h clear =
    let tested = or-false-left _ _ clear in
    let chosen = or-false-right _ _ clear in
    let p = value-unbound a v m new base state h (or-false-left _ _ tested) in
    let q = value-unbound b v m new base state h (or-false-right _ _ tested) in
    let r = value-unbound x v m new base state h (or-false-left _ _ chosen) in
    let s = value-unbound y v m new base state h (or-false-right _ _ chosen) in
    λ i. if int_eq (p i) (q i) then r i else s i

not-bound : {X : Type 0} (test rest : Bool) (k a b : X) → (test || rest) ≡ false → (rest ≡ false → a ≡ b) → (if test then k else a) ≡ b
not-bound true rest k a b clear h = cc
not-bound false rest k a b clear h = h clear

pub Unbound-number : (v m : ℕ → Bool) (new base : Names) → Unbound v m new base → (x : ℕ) (k : ℤ) → Unbound (and_name x v) m (with_number new x k) base
Unbound-number v m new base h x k = record {
  own = h.own;
  numbers = λ z clear. not-bound (z == x) (v z) k (new.number z) (base.number z) clear (h.numbers z);
  messages = h.messages;
}

pub Unbound-message : (v m : ℕ → Bool) (new base : Names) → Unbound v m new base → (n : ℕ) (meant : Meant) → Unbound v (and_name n m) (with_message new n meant) base
Unbound-message v m new base h n meant = record {
  own = h.own;
  numbers = h.numbers;
  messages = λ z clear. not-bound (z == n) (m z) (Some meant) (new.message z) (base.message z) clear (h.messages z);
}

-- names that are the same everywhere
pub record Alike (new old : Names) : Type 0 where
  pub own : new.own ≡ old.own
  pub numbers : (z : ℕ) → new.number z ≡ old.number z
  pub messages : (k : ℕ) → new.message k ≡ old.message k

holds-alike : (f : Formula) (new old : Names) (state : State) → Alike new old → holds f new state ≡ holds f old state
holds-alike f new old state h = holds-agree f new old state (record { own = h.own; number = λ z e. h.numbers z; message = λ k e. h.messages k })

value-alike : (t : Term) (new old : Names) (state : State) → Alike new old → value t new state ≡ value t old state
value-alike t new old state h = value-agree t new old state (record { own = h.own; number = λ z e. h.numbers z; message = λ k e. h.messages k })

Alike-number : (new old : Names) → Alike new old → (x : ℕ) (k : ℤ) → Alike (with_number new x k) (with_number old x k)
Alike-number new old h x k = record {
  own = h.own;
  numbers = λ z. ap (λ n. if z == x then k else n) (h.numbers z);
  messages = h.messages;
}

Alike-message : (new old : Names) → Alike new old → (m : ℕ) (meant : Meant) → Alike (with_message new m meant) (with_message old m meant)
Alike-message new old h m meant = record {
  own = h.own;
  numbers = h.numbers;
  messages = λ k. ap (λ o. if k == m then Some meant else o) (h.messages k);
}

-- two choices by tests that do not both pass
swap-if : {X : Type 0} (zx zy : Bool) (v k n : X) → (zx ≡ true → zy ≡ true → ⊥) → (if zy then k else if zx then v else n) ≡ (if zx then v else if zy then k else n)
swap-if true true v k n apart = absurd (apart refl refl)
swap-if true false v k n apart = refl
swap-if false true v k n apart = refl
swap-if false false v k n apart = refl

-- two choices by tests that are one
again-if : {X : Type 0} (zx zy : Bool) (v k n : X) → zx ≡ zy → (if zy then k else n) ≡ (if zy then k else if zx then v else n)
again-if true true v k n e = refl
again-if true false v k n e = cc
again-if false true v k n e = cc
again-if false false v k n e = refl

apart : (x y z : ℕ) → (y == x) ≡ false → (z == x) ≡ true → (z == y) ≡ true → ⊥
apart x y z ne zx zy = let same : (y == x) ≡ true = eq-eqb y x (sym (eqb-true z y zy) ∙ eqb-true z x zx) in (cc)

Some-is : {X : Type 0} (a b : X) → Some a ≡ Some b → a ≡ b
Some-is a b e = ap (λ o. unwrap_or o a) e

-- a term for a variable: x reads as the number v
pub record AtVariable (x : ℕ) (v : ℤ) (base : Names) (variable message : ℕ → Bool) (new old : Names) : Type 0 where
  pub unbound : Unbound variable message new base
  pub own : new.own ≡ old.own
  pub numbers : (z : ℕ) → old.number z ≡ (if z == x then v else new.number z)
  pub messages : (k : ℕ) → new.message k ≡ old.message k

module _ (x : ℕ) (u : Term) (base : Names) (state : State) where
  put-variable : (test : Bool) (t : Term) (n : ℤ) (variable message : ℕ → Bool) (new : Names) → Unbound variable message new base
      → (if test then Some u else None) ≡ Some t → mentions variable message t ≡ false
      → value t new state ≡ (if test then value u base state else n)
  put-variable true t n variable message new h e clear =
      value-unbound t variable message new base state h clear ∙ ap (λ (s : Term). value s base state) (sym (Some-is u t e))
  put-variable false t n variable message new h e clear = cc

  kept-variable : (test : Bool) (n k : ℤ) → (if test then Some u else None) ≡ None → k ≡ (if test then value u base state else n) → n ≡ k
  kept-variable true n k e h = cc
  kept-variable false n k e h = sym h

  place-variable : (variable message : ℕ → Bool) (new old : Names) → AtVariable x (value u base state) base variable message new old
      → (t s : Term) → put_for_variable x u t ≡ Some s → mentions variable message s ≡ false → value s new state ≡ value t old state
  place-variable variable message new old h (Var y) s e clear =
      put-variable (y == x) s (new.number y) variable message new h.unbound e clear ∙ sym (h.numbers y)
  place-variable variable message new old h _ s e clear = cc

  pub keeps-variable : Keeps (for_variable x u) state (AtVariable x (value u base state) base)
  keeps-variable = record {
    reads = λ variable message new old h. record {
      own = λ l. ap (λ o. label_of o l) h.own;
      place = place-variable variable message new old h;
      number = λ z kept. kept-variable (z == x) (new.number z) (old.number z) kept (h.numbers z);
      part = λ m p kept. ap (λ o. part_in state o p) (h.messages m);
    };
    node = λ variable message new old h y k goes. record {
      unbound = Unbound-number variable message new base h.unbound y k;
      own = h.own;
      numbers = λ z. ap (λ n. if z == y then k else n) (h.numbers z) ∙ swap-if (z == x) (z == y) (value u base state) k (new.number z) (apart x y z goes);
      messages = h.messages;
    };
    message = λ variable message new old h m meant goes. record {
      unbound = Unbound-message variable message new base h.unbound m meant;
      own = h.own;
      numbers = h.numbers;
      messages = λ k. ap (λ o. if k == m then Some meant else o) (h.messages k);
    };
    stopped_node = λ variable message new old h y k stops f. holds-alike f (with_number new y k) (with_number old y k) state (record {
      own = h.own;
      numbers = λ z. again-if (z == x) (z == y) (value u base state) k (new.number z) (ap (λ n. z == n) (sym (eqb-true y x stops))) ∙ ap (λ n. if z == y then k else n) (sym (h.numbers z));
      messages = h.messages;
    });
    stopped_message = λ variable message new old h m meant stops f. absurd (cc);
  }

-- terms for the parts of a message: m reads as a message of these parts
pub record AtMessage (m : ℕ) (parts : Part → ℤ) (base : Names) (variable message : ℕ → Bool) (new old : Names) : Type 0 where
  pub unbound : Unbound variable message new base
  pub own : new.own ≡ old.own
  pub numbers : (z : ℕ) → new.number z ≡ old.number z
  pub messages : (k : ℕ) → old.message k ≡ (if k == m then Some (Given parts) else new.message k)

module _ (m : ℕ) (u : NewMessage) (base : Names) (state : State) where
  abbrev given : Part → ℤ
  given part = value (new_part u part) base state

  put-message : (test : Bool) (t : Term) (part : Part) (o : Option Meant) (variable message : ℕ → Bool) (new : Names) → Unbound variable message new base
      → (if test then Some (new_part u part) else None) ≡ Some t → mentions variable message t ≡ false
      → value t new state ≡ part_in state (if test then Some (Given given) else o) part
  put-message true t part o variable message new h e clear =
      value-unbound t variable message new base state h clear ∙ ap (λ (s : Term). value s base state) (sym (Some-is (new_part u part) t e))
  put-message false t part o variable message new h e clear = cc

  kept-message : (test : Bool) (part : Part) (n k : Option Meant) → (if test then Some (new_part u part) else None) ≡ None → k ≡ (if test then Some (Given given) else n) → n ≡ k
  kept-message true part n k e h = cc
  kept-message false part n k e h = sym h

  place-message : (variable message : ℕ → Bool) (new old : Names) → AtMessage m given base variable message new old
      → (t s : Term) → put_for_message m u t ≡ Some s → mentions variable message s ≡ false → value s new state ≡ value t old state
  place-message variable message new old h (Msg n part) s e clear =
      put-message (n == m) s part (new.message n) variable message new h.unbound e clear ∙ ap (λ o. part_in state o part) (sym (h.messages n))
  place-message variable message new old h _ s e clear = cc

  pub keeps-message : Keeps (for_message m u) state (AtMessage m given base)
  keeps-message = record {
    reads = λ variable message new old h. record {
      own = λ l. ap (λ o. label_of o l) h.own;
      place = place-message variable message new old h;
      number = λ z kept. h.numbers z;
      part = λ n p kept. ap (λ o. part_in state o p) (kept-message (n == m) p (new.message n) (old.message n) kept (h.messages n));
    };
    node = λ variable message new old h y k goes. record {
      unbound = Unbound-number variable message new base h.unbound y k;
      own = h.own;
      numbers = λ z. ap (λ n. if z == y then k else n) (h.numbers z);
      messages = h.messages;
    };
    message = λ variable message new old h n meant goes. record {
      unbound = Unbound-message variable message new base h.unbound n meant;
      own = h.own;
      numbers = h.numbers;
      messages = λ k. ap (λ o. if k == n then Some meant else o) (h.messages k) ∙ swap-if (k == m) (k == n) (Some (Given given)) (Some meant) (new.message k) (apart m n k goes);
    };
    stopped_node = λ variable message new old h y k stops f. absurd (cc);
    stopped_message = λ variable message new old h n meant stops f. holds-alike f (with_message new n meant) (with_message old n meant) state (record {
      own = h.own;
      numbers = h.numbers;
      messages = λ k. again-if (k == m) (k == n) (Some (Given given)) (Some meant) (new.message k) (ap (λ j. k == j) (sym (eqb-true n m stops))) ∙ ap (λ o. if k == n then Some meant else o) (sym (h.messages k));
    });
  }

-- a term for another one: the names are the same, and no name of the old term is bound around
pub record AtTerm (o : Term) (base : Names) (variable message : ℕ → Bool) (new old : Names) : Type 0 where
  pub unbound : Unbound variable message new base
  pub alike : Alike new old
  pub no_variable : (z : ℕ) → variable z ≡ true → has_variable o z ≡ false
  pub no_message : (k : ℕ) → message k ≡ true → has_message o k ≡ false

-- a test that passes where another one doesn't
apart-tests : (a b : Bool) → (a ≡ true → b ≡ false) → b ≡ true → a ≡ false
apart-tests true b h e = let none = h refl in cc
apart-tests false b h e = refl

-- this name has no place, and none of those has
no-place : (test rest : Bool) (x z : ℕ) (has : ℕ → Bool) → (z == x) ≡ test → (test || rest) ≡ true → has x ≡ false → (rest ≡ true → has z ≡ false) → has z ≡ false
no-place true rest x z has e either here there = ap has (eqb-true z x e) ∙ here
no-place false rest x z has e either here there = there either

module _ (o u : Term) (base : Names) (state : State) (one : value o base state ≡ value u base state) where
  -- the old term has the value that it has around
  old-around : (variable message : ℕ → Bool) (new old : Names) → AtTerm o base variable message new old → value o base state ≡ value o old state
  old-around variable message new old h = value-agree o base old state (record {
    own = sym h.unbound.own ∙ h.alike.own;
    number = λ z has. sym (h.unbound.numbers z (apart-tests (variable z) (has_variable o z) (h.no_variable z) has)) ∙ h.alike.numbers z;
    message = λ k has. sym (h.unbound.messages k (apart-tests (message k) (has_message o k) (h.no_message k) has)) ∙ h.alike.messages k;
  })

  put-term : (test : Bool) (t s : Term) (variable message : ℕ → Bool) (new old : Names) → AtTerm o base variable message new old
      → same_term t o ≡ test → (if test then Some u else None) ≡ Some s → mentions variable message s ≡ false
      → value s new state ≡ value t old state
  put-term true t s variable message new old h same e clear =
      value-unbound s variable message new base state h.unbound clear
      ∙ ap (λ (r : Term). value r base state) (sym (Some-is u s e))
      ∙ sym one
      ∙ old-around variable message new old h
      ∙ ap (λ (r : Term). value r old state) (sym (term-is t o same))
  put-term false t s variable message new old h same e clear = cc

  pub keeps-term : Keeps (for_term o u) state (AtTerm o base)
  keeps-term = record {
    reads = λ variable message new old h. record {
      own = λ l. ap (λ n. label_of n l) h.alike.own;
      place = λ t s e clear. put-term (same_term t o) t s variable message new old h refl e clear;
      number = λ z kept. h.alike.numbers z;
      part = λ m p kept. ap (λ k. part_in state k p) (h.alike.messages m);
    };
    node = λ variable message new old h y k goes. record {
      unbound = Unbound-number variable message new base h.unbound y k;
      alike = Alike-number new old h.alike y k;
      no_variable = λ z either. no-place (z == y) (variable z) y z (has_variable o) refl either goes (h.no_variable z);
      no_message = h.no_message;
    };
    message = λ variable message new old h m meant goes. record {
      unbound = Unbound-message variable message new base h.unbound m meant;
      alike = Alike-message new old h.alike m meant;
      no_variable = h.no_variable;
      no_message = λ k either. no-place (k == m) (message k) m k (has_message o) refl either goes (h.no_message k);
    };
    stopped_node = λ variable message new old h y k stops f. holds-alike f (with_number new y k) (with_number old y k) state (Alike-number new old h.alike y k);
    stopped_message = λ variable message new old h m meant stops f. holds-alike f (with_message new m meant) (with_message old m meant) state (Alike-message new old h.alike m meant);
  }

-- a label for `self`: the names are the same, but for what `self` stands for
pub record AtOwn (l : ℕ) (variable message : ℕ → Bool) (new old : Names) : Type 0 where
  pub own : l ≡ old.own
  pub numbers : (z : ℕ) → new.number z ≡ old.number z
  pub messages : (k : ℕ) → new.message k ≡ old.message k

label-own : (l o n : ℕ) → l ≡ o → (lab : Lab) → label_of n (label_for l lab) ≡ label_of o lab
label-own l o n e Own = e
label-own l o n e (At other) = refl

pub keeps-own : (l : ℕ) (state : State) → Keeps (for_own l) state (AtOwn l)
keeps-own l state = record {
  reads = λ variable message new old h. record {
    own = label-own l old.own new.own h.own;
    place = λ t s e clear. absurd (cc);
    number = λ z kept. h.numbers z;
    part = λ m p kept. ap (λ k. part_in state k p) (h.messages m);
  };
  node = λ variable message new old h y k goes. record {
    own = h.own;
    numbers = λ z. ap (λ n. if z == y then k else n) (h.numbers z);
    messages = h.messages;
  };
  message = λ variable message new old h m meant goes. record {
    own = h.own;
    numbers = h.numbers;
    messages = λ k. ap (λ n. if k == m then Some meant else n) (h.messages k);
  };
  stopped_node = λ variable message new old h y k stops f. absurd (cc);
  stopped_message = λ variable message new old h m meant stops f. absurd (cc);
}
