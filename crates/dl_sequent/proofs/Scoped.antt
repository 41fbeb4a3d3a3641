-- In a formula that tells its names apart, what is free is known.
use Rattle.std.proofs.Common.{◌≡◌, ℕ, ℤ, Bool, true, false, not, ◌&&◌, ◌||◌, ◌==◌, List, [], ◌∷◌, Some, refl, sym, ◌∙◌, subst, eq-eqb, eqb-true}
use Rattle.std.specs.List.{AllByRecursion as Each}
use Rattle.dl_term.specs.declared.syntax.Term.{Term, Num, Word, Var, Field', Row', Len, Msg, Add', Sub', Mul', If', more_of-Term as one_term, end_of-Term as end_term}
use Rattle.dl_term.specs.declared.syntax.Formula.{Formula, True, False, Eq, Lt, Le, Not', And', Or', Implies', All', Exists', Each' as Every', Any', more_of-Formula as one, end_of-Formula as end}
use Rattle.dl_term.specs.State.{State}
use Rattle.dl_term.specs.Names.{Names, Meant, with_number, with_message}
use Rattle.dl_term.specs.Meaning.{holds}
use Rattle.dl_term.specs.Measures.{has_variable, has_message, is_free_variable, is_free_message}
use Rattle.dl_term.proofs.Choices.{not-chosen}
use Rattle.dl_term.proofs.Agree.{holds-agree}
use Rattle.dl_model.specs.Sorts.{has}
use Rattle.dl_sequent.specs.Clean.{knows, is_unknown, is_told_apart}
use Rattle.dl_sequent.proofs.Facts.{and-left, and-right}

-- each name that the formula leaves free is known
pub record FreeAreKnown (vars messages : List ℕ) (f : Formula) : Type 0 where
  pub variables : (x : ℕ) → is_free_variable f x ≡ true → has vars x ≡ true
  pub messages_too : (m : ℕ) → is_free_message f m ≡ true → has messages m ≡ true

either-way : {P : Type 0} (a b : Bool) → (a || b) ≡ true → (a ≡ true → P) → (b ≡ true → P) → P
either-way true b h f g = f refl
either-way false b h f g = g h

is-named : (names : List ℕ) (x y : ℕ) → (x == y) ≡ true → has names x ≡ true → has names y ≡ true
is-named names x y e h = subst (λ z. has names z ≡ true) (eqb-true x y e) h

pub known-variable : (vars messages : List ℕ) (t : Term) (x : ℕ) → knows vars messages t ≡ true → has_variable t x ≡ true → has vars x ≡ true
known-variable vars messages (Num v) x k h = cc
known-variable vars messages (Word sym v) x k h = cc
known-variable vars messages (Var sym) x k h = is-named vars sym x h k
known-variable vars messages (Field' label field _ (one_term node end_term)) x k h = known-variable vars messages node x k h
known-variable vars messages (Row' label field _ (one_term node end_term) _ (one_term index end_term)) x k h =
    either-way (has_variable node x) (has_variable index x) h (λ g. known-variable vars messages node x (and-left _ _ k) g) (λ g. known-variable vars messages index x (and-right _ _ k) g)
known-variable vars messages (Len label) x k h = cc
known-variable vars messages (Msg msg part) x k h = cc
known-variable vars messages (Add' _ (one_term a end_term) _ (one_term b end_term)) x k h =
    either-way (has_variable a x) (has_variable b x) h (λ g. known-variable vars messages a x (and-left _ _ k) g) (λ g. known-variable vars messages b x (and-right _ _ k) g)
known-variable vars messages (Sub' _ (one_term a end_term) _ (one_term b end_term)) x k h =
    either-way (has_variable a x) (has_variable b x) h (λ g. known-variable vars messages a x (and-left _ _ k) g) (λ g. known-variable vars messages b x (and-right _ _ k) g)
known-variable vars messages (Mul' _ (one_term a end_term) _ (one_term b end_term)) x k h =
    either-way (has_variable a x) (has_variable b x) h (λ g. known-variable vars messages a x (and-left _ _ k) g) (λ g. known-variable vars messages b x (and-right _ _ k) g)
known-variable vars messages (If' _ (one_term a end_term) _ (one_term b end_term) _ (one_term c end_term) _ (one_term d end_term)) x k h =
    let tested = and-left (knows vars messages a && knows vars messages b) (knows vars messages c && knows vars messages d) k in
    let chosen = and-right (knows vars messages a && knows vars messages b) (knows vars messages c && knows vars messages d) k in
    either-way (has_variable a x || has_variable b x) (has_variable c x || has_variable d x) h
    (λ g. either-way (has_variable a x) (has_variable b x) g (λ e. known-variable vars messages a x (and-left _ _ tested) e) (λ e. known-variable vars messages b x (and-right _ _ tested) e))
    (λ g. either-way (has_variable c x) (has_variable d x) g (λ e. known-variable vars messages c x (and-left _ _ chosen) e) (λ e. known-variable vars messages d x (and-right _ _ chosen) e))

pub known-message : (vars messages : List ℕ) (t : Term) (x : ℕ) → knows vars messages t ≡ true → has_message t x ≡ true → has messages x ≡ true
known-message vars messages (Num v) x k h = cc
known-message vars messages (Word sym v) x k h = cc
known-message vars messages (Var sym) x k h = cc
known-message vars messages (Field' label field _ (one_term node end_term)) x k h = known-message vars messages node x k h
known-message vars messages (Row' label field _ (one_term node end_term) _ (one_term index end_term)) x k h =
    either-way (has_message node x) (has_message index x) h (λ g. known-message vars messages node x (and-left _ _ k) g) (λ g. known-message vars messages index x (and-right _ _ k) g)
known-message vars messages (Len label) x k h = cc
known-message vars messages (Msg msg part) x k h = is-named messages msg x h k
known-message vars messages (Add' _ (one_term a end_term) _ (one_term b end_term)) x k h =
    either-way (has_message a x) (has_message b x) h (λ g. known-message vars messages a x (and-left _ _ k) g) (λ g. known-message vars messages b x (and-right _ _ k) g)
known-message vars messages (Sub' _ (one_term a end_term) _ (one_term b end_term)) x k h =
    either-way (has_message a x) (has_message b x) h (λ g. known-message vars messages a x (and-left _ _ k) g) (λ g. known-message vars messages b x (and-right _ _ k) g)
known-message vars messages (Mul' _ (one_term a end_term) _ (one_term b end_term)) x k h =
    either-way (has_message a x) (has_message b x) h (λ g. known-message vars messages a x (and-left _ _ k) g) (λ g. known-message vars messages b x (and-right _ _ k) g)
known-message vars messages (If' _ (one_term a end_term) _ (one_term b end_term) _ (one_term c end_term) _ (one_term d end_term)) x k h =
    let tested = and-left (knows vars messages a && knows vars messages b) (knows vars messages c && knows vars messages d) k in
    let chosen = and-right (knows vars messages a && knows vars messages b) (knows vars messages c && knows vars messages d) k in
    either-way (has_message a x || has_message b x) (has_message c x || has_message d x) h
    (λ g. either-way (has_message a x) (has_message b x) g (λ e. known-message vars messages a x (and-left _ _ tested) e) (λ e. known-message vars messages b x (and-right _ _ tested) e))
    (λ g. either-way (has_message c x) (has_message d x) g (λ e. known-message vars messages c x (and-left _ _ chosen) e) (λ e. known-message vars messages d x (and-right _ _ chosen) e))

-- a name that is known inside a quantifier and isn't the bound one is known outside
below : (names : List ℕ) (bound x : ℕ) (free : Bool) → (not (bound == x) && free) ≡ true → (free ≡ true → has (bound ∷ names) x ≡ true) → has names x ≡ true
below names bound x free h inside = by_test (bound == x) refl h
  where
    by_test : (test : Bool) → (bound == x) ≡ test → (not test && free) ≡ true → has names x ≡ true
    by_test true e g = cc
    by_test false e g = either-way (x == bound) (has names x) (inside g) (λ same. let back = eq-eqb bound x (sym (eqb-true x bound same)) in cc) (λ known. known)

pub free-variable-known : (vars messages : List ℕ) (f : Formula) (x : ℕ) → is_told_apart vars messages f ≡ true → is_free_variable f x ≡ true → has vars x ≡ true
free-variable-known vars messages True x k h = cc
free-variable-known vars messages False x k h = cc
free-variable-known vars messages (Eq a b) x k h =
    either-way (has_variable a x) (has_variable b x) h (λ g. known-variable vars messages a x (and-left _ _ k) g) (λ g. known-variable vars messages b x (and-right _ _ k) g)
free-variable-known vars messages (Lt a b) x k h =
    either-way (has_variable a x) (has_variable b x) h (λ g. known-variable vars messages a x (and-left _ _ k) g) (λ g. known-variable vars messages b x (and-right _ _ k) g)
free-variable-known vars messages (Le a b) x k h =
    either-way (has_variable a x) (has_variable b x) h (λ g. known-variable vars messages a x (and-left _ _ k) g) (λ g. known-variable vars messages b x (and-right _ _ k) g)
free-variable-known vars messages (Not' _ (one f end)) x k h = free-variable-known vars messages f x k h
free-variable-known vars messages (And' _ (one f end) _ (one g end)) x k h =
    either-way (is_free_variable f x) (is_free_variable g x) h (λ e. free-variable-known vars messages f x (and-left _ _ k) e) (λ e. free-variable-known vars messages g x (and-right _ _ k) e)
free-variable-known vars messages (Or' _ (one f end) _ (one g end)) x k h =
    either-way (is_free_variable f x) (is_free_variable g x) h (λ e. free-variable-known vars messages f x (and-left _ _ k) e) (λ e. free-variable-known vars messages g x (and-right _ _ k) e)
free-variable-known vars messages (Implies' _ (one f end) _ (one g end)) x k h =
    either-way (is_free_variable f x) (is_free_variable g x) h (λ e. free-variable-known vars messages f x (and-left _ _ k) e) (λ e. free-variable-known vars messages g x (and-right _ _ k) e)
free-variable-known vars messages (All' y _ (one f end)) x k h =
    below vars y x (is_free_variable f x) h (λ e. free-variable-known (y ∷ vars) messages f x (and-right (is_unknown vars messages y) _ k) e)
free-variable-known vars messages (Exists' y _ (one f end)) x k h =
    below vars y x (is_free_variable f x) h (λ e. free-variable-known (y ∷ vars) messages f x (and-right (is_unknown vars messages y) _ k) e)
free-variable-known vars messages (Every' m label tag _ (one f end)) x k h = free-variable-known vars (m ∷ messages) f x (and-right (is_unknown vars messages m) _ k) h
free-variable-known vars messages (Any' m label tag _ (one f end)) x k h = free-variable-known vars (m ∷ messages) f x (and-right (is_unknown vars messages m) _ k) h

pub free-message-known : (vars messages : List ℕ) (f : Formula) (x : ℕ) → is_told_apart vars messages f ≡ true → is_free_message f x ≡ true → has messages x ≡ true
free-message-known vars messages True x k h = cc
free-message-known vars messages False x k h = cc
free-message-known vars messages (Eq a b) x k h =
    either-way (has_message a x) (has_message b x) h (λ g. known-message vars messages a x (and-left _ _ k) g) (λ g. known-message vars messages b x (and-right _ _ k) g)
free-message-known vars messages (Lt a b) x k h =
    either-way (has_message a x) (has_message b x) h (λ g. known-message vars messages a x (and-left _ _ k) g) (λ g. known-message vars messages b x (and-right _ _ k) g)
free-message-known vars messages (Le a b) x k h =
    either-way (has_message a x) (has_message b x) h (λ g. known-message vars messages a x (and-left _ _ k) g) (λ g. known-message vars messages b x (and-right _ _ k) g)
free-message-known vars messages (Not' _ (one f end)) x k h = free-message-known vars messages f x k h
free-message-known vars messages (And' _ (one f end) _ (one g end)) x k h =
    either-way (is_free_message f x) (is_free_message g x) h (λ e. free-message-known vars messages f x (and-left _ _ k) e) (λ e. free-message-known vars messages g x (and-right _ _ k) e)
free-message-known vars messages (Or' _ (one f end) _ (one g end)) x k h =
    either-way (is_free_message f x) (is_free_message g x) h (λ e. free-message-known vars messages f x (and-left _ _ k) e) (λ e. free-message-known vars messages g x (and-right _ _ k) e)
free-message-known vars messages (Implies' _ (one f end) _ (one g end)) x k h =
    either-way (is_free_message f x) (is_free_message g x) h (λ e. free-message-known vars messages f x (and-left _ _ k) e) (λ e. free-message-known vars messages g x (and-right _ _ k) e)
free-message-known vars messages (All' y _ (one f end)) x k h = free-message-known (y ∷ vars) messages f x (and-right (is_unknown vars messages y) _ k) h
free-message-known vars messages (Exists' y _ (one f end)) x k h = free-message-known (y ∷ vars) messages f x (and-right (is_unknown vars messages y) _ k) h
free-message-known vars messages (Every' m label tag _ (one f end)) x k h =
    below messages m x (is_free_message f x) h (λ e. free-message-known vars (m ∷ messages) f x (and-right (is_unknown vars messages m) _ k) e)
free-message-known vars messages (Any' m label tag _ (one f end)) x k h =
    below messages m x (is_free_message f x) h (λ e. free-message-known vars (m ∷ messages) f x (and-right (is_unknown vars messages m) _ k) e)

pub told-apart-known : (vars messages : List ℕ) (f : Formula) → is_told_apart vars messages f ≡ true → FreeAreKnown vars messages f
told-apart-known vars messages f h = record {
  variables = λ x e. free-variable-known vars messages f x h e;
  messages_too = λ x e. free-message-known vars messages f x h e;
}

-- ---- names that are new

not-true : (b : Bool) → not b ≡ true → b ≡ true → ⊥
not-true true h e = cc
not-true false h e = cc

or-second : (a b : Bool) → b ≡ true → (a || b) ≡ true
or-second true b h = refl
or-second false b h = h

-- a formula does not see a new meaning of a name that is not known
pub new-number : (vars messages : List ℕ) (f : Formula) (y : ℕ) (v : ℤ) (names : Names) (state : State) → FreeAreKnown vars messages f → is_unknown vars messages y ≡ true → holds f names state ≡ holds f (with_number names y v) state
new-number vars messages f y v names state known unknown =
    holds-agree f names (with_number names y v) state (record {
      own = refl;
      number = λ x free. sym (not-chosen (x == y) v (names.number x) (λ same. not-true (has vars y) (and-left _ _ unknown) (is-named vars x y same (known.variables x free))));
      message = λ m free. refl;
    })

pub new-message : (vars messages : List ℕ) (f : Formula) (y : ℕ) (new : Meant) (names : Names) (state : State) → FreeAreKnown vars messages f → is_unknown vars messages y ≡ true → holds f names state ≡ holds f (with_message names y new) state
new-message vars messages f y new names state known unknown =
    holds-agree f names (with_message names y new) state (record {
      own = refl;
      number = λ x free. refl;
      message = λ m free. sym (not-chosen (m == y) (Some new) (names.message m) (λ same. not-true (has messages y) (and-right (not (has vars y)) _ unknown) (is-named messages m y same (known.messages_too m free))));
    })

-- what is known stays known where a further name is
pub with-variable : (vars messages : List ℕ) (y : ℕ) (facts : List Formula) → Each (FreeAreKnown vars messages) facts → Each (FreeAreKnown (y ∷ vars) messages) facts
with-variable vars messages y [] h = tt
with-variable vars messages y (f ∷ fs) h =
    (record { variables = λ x e. or-second (x == y) (has vars x) (h.0.variables x e); messages_too = h.0.messages_too }, with-variable vars messages y fs h.1)

pub with-message : (vars messages : List ℕ) (y : ℕ) (facts : List Formula) → Each (FreeAreKnown vars messages) facts → Each (FreeAreKnown vars (y ∷ messages)) facts
with-message vars messages y [] h = tt
with-message vars messages y (f ∷ fs) h =
    (record { variables = h.0.variables; messages_too = λ x e. or-second (x == y) (has messages x) (h.0.messages_too x e) }, with-message vars messages y fs h.1)

pub all-new-number : (vars messages : List ℕ) (y : ℕ) (v : ℤ) (names : Names) (state : State) (facts : List Formula) → is_unknown vars messages y ≡ true → Each (FreeAreKnown vars messages) facts
    → Each (λ (f : Formula). holds f names state ≡ true) facts → Each (λ (f : Formula). holds f (with_number names y v) state ≡ true) facts
all-new-number vars messages y v names state [] unknown known h = tt
all-new-number vars messages y v names state (f ∷ fs) unknown known h =
    (sym (new-number vars messages f y v names state known.0 unknown) ∙ h.0, all-new-number vars messages y v names state fs unknown known.1 h.1)

pub all-new-message : (vars messages : List ℕ) (y : ℕ) (new : Meant) (names : Names) (state : State) (facts : List Formula) → is_unknown vars messages y ≡ true → Each (FreeAreKnown vars messages) facts
    → Each (λ (f : Formula). holds f names state ≡ true) facts → Each (λ (f : Formula). holds f (with_message names y new) state ≡ true) facts
all-new-message vars messages y new names state [] unknown known h = tt
all-new-message vars messages y new names state (f ∷ fs) unknown known h =
    (sym (new-message vars messages f y new names state known.0 unknown) ∙ h.0, all-new-message vars messages y new names state fs unknown known.1 h.1)
