-- Formulas of obligations tell their names apart.
use Rattle.std.proofs.Common.{◌≡◌, ℕ, Bool, true, false, not, ◌&&◌, ◌||◌, ◌==◌, if◌then◌else◌, Option, Some, None, List, ◌∷◌, ◌++◌, unwrap_or, refl, ap, eq-eqb, inl, inr}
use Rattle.dl_term.specs.declared.syntax.Part.{Part}
use Rattle.dl_term.specs.declared.syntax.Term.{Term, Num, Word, Var, Field', Row', Len, Msg, Add', Sub', Mul', If', more_of-Term as one, end_of-Term as end}
use Rattle.dl_term.specs.declared.syntax.Formula.{Formula, True, False, Eq, Lt, Le, Not', And', Or', Implies', All', Exists', Each', Any', more_of-Formula as one_formula, end_of-Formula as end_formula}
use Rattle.dl_term.specs.Syntax.{opened}
use Rattle.dl_model.specs.Sorts.{has}
use Rattle.dl_model.specs.Spoken.{bound_names}
use Rattle.dl_model.specs.Scopes.{Scope, is_fresh, with_variable, with_message, TermIsKnown, FormulaIsKnown}
use Rattle.dl_model.proofs.Small.{and-left, and-right, and-both, or-left, or-right, or-both, or-true-left, or-true-right, either-true}
use Rattle.dl_sequent.specs.Clean.{knows, is_unknown, is_told_apart}
use Rattle.dl_subst.specs.Change.{Change, inside, changed_term, changed}
use Rattle.dl_inv.proofs.Lists.{has-front, has-back}

not-false : (b : Bool) → not b ≡ true → b ≡ false
not-false true h = cc
not-false false h = refl

pub unknown-is : (vars messages : List ℕ) (y : ℕ) → has vars y ≡ false → has messages y ≡ false → is_unknown vars messages y ≡ true
unknown-is vars messages y h k = and-both _ _ (ap not h) (ap not k)

pub is-no-variable : (vars messages : List ℕ) (y : ℕ) → is_unknown vars messages y ≡ true → has vars y ≡ false
is-no-variable vars messages y h = not-false (has vars y) (and-left _ _ h)

pub is-no-message : (vars messages : List ℕ) (y : ℕ) → is_unknown vars messages y ≡ true → has messages y ≡ false
is-no-message vars messages y h = not-false (has messages y) (and-right (not (has vars y)) _ h)

pub fresh-both : (scope : Scope) (y : ℕ) → is_fresh scope y ≡ true → (has scope.variables y ≡ false) × (has scope.messages y ≡ false)
fresh-both scope y h =
    let neither : (has scope.variables y || has scope.messages y) ≡ false = not-false _ (and-right _ _ h) in
    (or-left (has scope.variables y) (has scope.messages y) neither, or-right (has scope.variables y) (has scope.messages y) neither)

-- ---- what is known in a scope

-- What is in scope is known, and a name that isn't in scope and is bound in the formula is not known.
pub record Inside (scope : Scope) (vars messages bound : List ℕ) : Type 0 where
  pub variables : (x : ℕ) → has scope.variables x ≡ true → has vars x ≡ true
  pub messages_in : (m : ℕ) → has scope.messages m ≡ true → has messages m ≡ true
  pub apart : (y : ℕ) → has scope.variables y ≡ false → has scope.messages y ≡ false → has bound y ≡ true → (has vars y ≡ false) × (has messages y ≡ false)

pub inside-front : (scope : Scope) (vars messages xs ys : List ℕ) → Inside scope vars messages (xs ++ ys) → Inside scope vars messages xs
inside-front scope vars messages xs ys i = record { variables = i.variables; messages_in = i.messages_in; apart = λ y h k m. i.apart y h k (has-front xs ys y m) }

pub inside-back : (scope : Scope) (vars messages xs ys : List ℕ) → Inside scope vars messages (xs ++ ys) → Inside scope vars messages ys
inside-back scope vars messages xs ys i = record { variables = i.variables; messages_in = i.messages_in; apart = λ y h k m. i.apart y h k (has-back xs ys y m) }

pub inside-unknown : (scope : Scope) (vars messages : List ℕ) (y : ℕ) (bound : List ℕ) → is_fresh scope y ≡ true → Inside scope vars messages (y ∷ bound) → is_unknown vars messages y ≡ true
inside-unknown scope vars messages y bound h i =
    let f = fresh-both scope y h in
    let a = i.apart y f.0 f.1 (or-true-left (y == y) (has bound y) (eq-eqb y y refl)) in
    unknown-is vars messages y a.0 a.1

more-names : (xs zs : List ℕ) (y x : ℕ) → (has xs x ≡ true → has zs x ≡ true) → has (y ∷ xs) x ≡ true → has (y ∷ zs) x ≡ true
more-names xs zs y x h m = elim (either-true (x == y) (has xs x) m) [ inl e ↦ or-true-left (x == y) (has zs x) e | inr e ↦ or-true-right (x == y) (has zs x) (h e) ]

pub inside-variable : (scope : Scope) (vars messages : List ℕ) (y : ℕ) (bound : List ℕ) → Inside scope vars messages (y ∷ bound) → Inside (with_variable scope y) (y ∷ vars) messages bound
inside-variable scope vars messages y bound i = record {
  variables = λ x m. more-names scope.variables vars y x (i.variables x) m;
  messages_in = i.messages_in;
  apart = λ z h k m.
      let a = i.apart z (or-right (z == y) (has scope.variables z) h) k (or-true-right (z == y) (has bound z) m) in
      (or-both (z == y) (has vars z) (or-left (z == y) (has scope.variables z) h) a.0, a.1);
}

pub inside-message : (scope : Scope) (vars messages : List ℕ) (y : ℕ) (bound : List ℕ) → Inside scope vars messages (y ∷ bound) → Inside (with_message scope y) vars (y ∷ messages) bound
inside-message scope vars messages y bound i = record {
  variables = i.variables;
  messages_in = λ x m. more-names scope.messages messages y x (i.messages_in x) m;
  apart = λ z h k m.
      let a = i.apart z h (or-right (z == y) (has scope.messages z) k) (or-true-right (z == y) (has bound z) m) in
      (a.0, or-both (z == y) (has messages z) (or-left (z == y) (has scope.messages z) k) a.1);
}

term-known : (t : Term) (scope : Scope) (vars messages : List ℕ) → TermIsKnown scope t → ((x : ℕ) → has scope.variables x ≡ true → has vars x ≡ true) → ((m : ℕ) → has scope.messages m ≡ true → has messages m ≡ true) → knows vars messages t ≡ true
term-known (Num v) scope vars messages h p q = refl
term-known (Word x v) scope vars messages h p q = refl
term-known (Var x) scope vars messages h p q = p x h
term-known (Field' label field _ (one node end)) scope vars messages h p q = term-known node scope vars messages h.1 p q
term-known (Row' label field _ (one node end) _ (one index end)) scope vars messages h p q = and-both _ _ (term-known node scope vars messages h.1 p q) (term-known index scope vars messages h.2 p q)
term-known (Len label) scope vars messages h p q = refl
term-known (Msg m part) scope vars messages h p q = q m h.0
term-known (Add' _ (one a end) _ (one b end)) scope vars messages h p q = and-both _ _ (term-known a scope vars messages h.0 p q) (term-known b scope vars messages h.1 p q)
term-known (Sub' _ (one a end) _ (one b end)) scope vars messages h p q = and-both _ _ (term-known a scope vars messages h.0 p q) (term-known b scope vars messages h.1 p q)
term-known (Mul' _ (one a end) _ (one b end)) scope vars messages h p q = and-both _ _ (term-known a scope vars messages h.0 p q) (term-known b scope vars messages h.1 p q)
term-known (If' _ (one a end) _ (one b end) _ (one x end) _ (one y end)) scope vars messages h p q =
    and-both _ _ (and-both _ _ (term-known a scope vars messages h.0 p q) (term-known b scope vars messages h.1 p q)) (and-both _ _ (term-known x scope vars messages h.2 p q) (term-known y scope vars messages h.3 p q))

pub told-known : (f : Formula) (scope : Scope) (vars messages : List ℕ) → FormulaIsKnown scope f → Inside scope vars messages (bound_names f) → is_told_apart vars messages f ≡ true
told-known True scope vars messages h i = refl
told-known False scope vars messages h i = refl
told-known (Eq a b) scope vars messages h i = and-both _ _ (term-known a scope vars messages h.0 i.variables i.messages_in) (term-known b scope vars messages h.1 i.variables i.messages_in)
told-known (Lt a b) scope vars messages h i = and-both _ _ (term-known a scope vars messages h.0 i.variables i.messages_in) (term-known b scope vars messages h.1 i.variables i.messages_in)
told-known (Le a b) scope vars messages h i = and-both _ _ (term-known a scope vars messages h.0 i.variables i.messages_in) (term-known b scope vars messages h.1 i.variables i.messages_in)
told-known (Not' _ (one_formula f end_formula)) scope vars messages h i = told-known f scope vars messages h i
told-known (And' _ (one_formula f end_formula) _ (one_formula g end_formula)) scope vars messages h i =
    and-both _ _ (told-known f scope vars messages h.0 (inside-front scope vars messages (bound_names f) (bound_names g) i)) (told-known g scope vars messages h.1 (inside-back scope vars messages (bound_names f) (bound_names g) i))
told-known (Or' _ (one_formula f end_formula) _ (one_formula g end_formula)) scope vars messages h i =
    and-both _ _ (told-known f scope vars messages h.0 (inside-front scope vars messages (bound_names f) (bound_names g) i)) (told-known g scope vars messages h.1 (inside-back scope vars messages (bound_names f) (bound_names g) i))
told-known (Implies' _ (one_formula f end_formula) _ (one_formula g end_formula)) scope vars messages h i =
    and-both _ _ (told-known f scope vars messages h.0 (inside-front scope vars messages (bound_names f) (bound_names g) i)) (told-known g scope vars messages h.1 (inside-back scope vars messages (bound_names f) (bound_names g) i))
told-known (All' x _ (one_formula f end_formula)) scope vars messages h i =
    and-both _ _ (inside-unknown scope vars messages x (bound_names f) h.0 i) (told-known f (with_variable scope x) (x ∷ vars) messages h.1 (inside-variable scope vars messages x (bound_names f) i))
told-known (Exists' x _ (one_formula f end_formula)) scope vars messages h i =
    and-both _ _ (inside-unknown scope vars messages x (bound_names f) h.0 i) (told-known f (with_variable scope x) (x ∷ vars) messages h.1 (inside-variable scope vars messages x (bound_names f) i))
told-known (Each' m label tag _ (one_formula f end_formula)) scope vars messages h i =
    and-both _ _ (inside-unknown scope vars messages m (bound_names f) h.0 i) (told-known f (with_message scope m) vars (m ∷ messages) h.2 (inside-message scope vars messages m (bound_names f) i))
told-known (Any' m label tag _ (one_formula f end_formula)) scope vars messages h i =
    and-both _ _ (inside-unknown scope vars messages m (bound_names f) h.0 i) (told-known f (with_message scope m) vars (m ∷ messages) h.2 (inside-message scope vars messages m (bound_names f) i))

-- ---- a changed formula

-- What a change passes on from the names that the formula knows, `v` and `m`, to those that the changed formula knows.
pub record Passes (c : Change) (bound : List ℕ) (R : (v m vars messages : List ℕ) → Type 0) : Type 0 where
  pub place : (v m vars messages : List ℕ) → R v m vars messages → (t u : Term) → c.put t ≡ Some u → knows v m t ≡ true → knows vars messages u ≡ true
  pub number : (v m vars messages : List ℕ) → R v m vars messages → (x : ℕ) → c.put (Var x) ≡ None → has v x ≡ true → has vars x ≡ true
  pub part : (v m vars messages : List ℕ) → R v m vars messages → (k : ℕ) (p : Part) → c.put (Msg k p) ≡ None → has m k ≡ true → has messages k ≡ true
  pub unknown : (v m vars messages : List ℕ) → R v m vars messages → (y : ℕ) → has bound y ≡ true → is_unknown v m y ≡ true → is_unknown vars messages y ≡ true
  pub goes : (v m vars messages : List ℕ) → R v m vars messages → (y : ℕ) → is_unknown v m y ≡ true → (c.stops_at_variable y ≡ false) × (c.stops_at_message y ≡ false)
  pub variable : (v m vars messages : List ℕ) → R v m vars messages → (y : ℕ) → is_unknown v m y ≡ true → R (y ∷ v) m (y ∷ vars) messages
  pub message : (v m vars messages : List ℕ) → R v m vars messages → (y : ℕ) → is_unknown v m y ≡ true → R v (y ∷ m) vars (y ∷ messages)

module _ (c : Change) (whole : List ℕ) (R : (v m vars messages : List ℕ) → Type 0) (passes : Passes c whole R) where
  place-known : (t : Term) (o : Option Term) (v m vars messages : List ℕ) → c.put t ≡ o → R v m vars messages → knows v m t ≡ true → (c.put t ≡ None → knows vars messages (inside c t) ≡ true) → knows vars messages (unwrap_or o (inside c t)) ≡ true
  place-known t (Some u) v m vars messages e r k within = passes.place v m vars messages r t u e k
  place-known t None v m vars messages e r k within = within e

  inside-known : (t : Term) (v m vars messages : List ℕ) → R v m vars messages → knows v m t ≡ true → c.put t ≡ None → knows vars messages (inside c t) ≡ true
  unfolding opened
  inside-known (Num n) v m vars messages r k e = refl
  inside-known (Word x n) v m vars messages r k e = refl
  inside-known (Var x) v m vars messages r k e = passes.number v m vars messages r x e k
  inside-known (Field' label field _ (one node end)) v m vars messages r k e = place-known node (c.put node) v m vars messages refl r k (inside-known node v m vars messages r k)
  inside-known (Row' label field _ (one node end) _ (one index end)) v m vars messages r k e =
      let a = and-left (knows v m node) (knows v m index) k in
      let b = and-right (knows v m node) (knows v m index) k in
      and-both _ _ (place-known node (c.put node) v m vars messages refl r a (inside-known node v m vars messages r a)) (place-known index (c.put index) v m vars messages refl r b (inside-known index v m vars messages r b))
  inside-known (Len label) v m vars messages r k e = refl
  inside-known (Msg n part) v m vars messages r k e = passes.part v m vars messages r n part e k
  inside-known (Add' _ (one s end) _ (one t end)) v m vars messages r k e =
      let a = and-left (knows v m s) (knows v m t) k in
      let b = and-right (knows v m s) (knows v m t) k in
      and-both _ _ (place-known s (c.put s) v m vars messages refl r a (inside-known s v m vars messages r a)) (place-known t (c.put t) v m vars messages refl r b (inside-known t v m vars messages r b))
  inside-known (Sub' _ (one s end) _ (one t end)) v m vars messages r k e =
      let a = and-left (knows v m s) (knows v m t) k in
      let b = and-right (knows v m s) (knows v m t) k in
      and-both _ _ (place-known s (c.put s) v m vars messages refl r a (inside-known s v m vars messages r a)) (place-known t (c.put t) v m vars messages refl r b (inside-known t v m vars messages r b))
  inside-known (Mul' _ (one s end) _ (one t end)) v m vars messages r k e =
      let a = and-left (knows v m s) (knows v m t) k in
      let b = and-right (knows v m s) (knows v m t) k in
      and-both _ _ (place-known s (c.put s) v m vars messages refl r a (inside-known s v m vars messages r a)) (place-known t (c.put t) v m vars messages refl r b (inside-known t v m vars messages r b))
  inside-known (If' _ (one s end) _ (one t end) _ (one x end) _ (one y end)) v m vars messages r k e =
      let tests = and-left (knows v m s && knows v m t) (knows v m x && knows v m y) k in
      let choices = and-right (knows v m s && knows v m t) (knows v m x && knows v m y) k in
      let a = and-left (knows v m s) (knows v m t) tests in
      let b = and-right (knows v m s) (knows v m t) tests in
      let p = and-left (knows v m x) (knows v m y) choices in
      let q = and-right (knows v m x) (knows v m y) choices in
      and-both _ _
      (and-both _ _ (place-known s (c.put s) v m vars messages refl r a (inside-known s v m vars messages r a)) (place-known t (c.put t) v m vars messages refl r b (inside-known t v m vars messages r b)))
      (and-both _ _ (place-known x (c.put x) v m vars messages refl r p (inside-known x v m vars messages r p)) (place-known y (c.put y) v m vars messages refl r q (inside-known y v m vars messages r q)))

  changed-known : (t : Term) (v m vars messages : List ℕ) → R v m vars messages → knows v m t ≡ true → knows vars messages (changed_term c t) ≡ true
  changed-known t v m vars messages r k = place-known t (c.put t) v m vars messages refl r k (inside-known t v m vars messages r k)

  -- the formula binds names of `whole` alone
  abbrev Within : List ℕ → Type 0
  Within bound = (y : ℕ) → has bound y ≡ true → has whole y ≡ true

  within-front : (xs ys : List ℕ) → Within (xs ++ ys) → Within xs
  within-front xs ys h y m = h y (has-front xs ys y m)

  within-back : (xs ys : List ℕ) → Within (xs ++ ys) → Within ys
  within-back xs ys h y m = h y (has-back xs ys y m)

  within-first : (y : ℕ) (xs : List ℕ) → Within (y ∷ xs) → has whole y ≡ true
  within-first y xs h = h y (or-true-left (y == y) (has xs y) (eq-eqb y y refl))

  within-rest : (y : ℕ) (xs : List ℕ) → Within (y ∷ xs) → Within xs
  within-rest y xs h z m = h z (or-true-right (z == y) (has xs z) m)

  body-told : (stops : Bool) (f g : Formula) (vars messages : List ℕ) → stops ≡ false → is_told_apart vars messages g ≡ true → is_told_apart vars messages (if stops then f else g) ≡ true
  body-told true f g vars messages e h = cc
  body-told false f g vars messages e h = h

  pub changed-told : (f : Formula) (v m vars messages : List ℕ) → Within (bound_names f) → R v m vars messages → is_told_apart v m f ≡ true → is_told_apart vars messages (changed c f) ≡ true
  unfolding opened
  changed-told True v m vars messages w r h = refl
  changed-told False v m vars messages w r h = refl
  changed-told (Eq a b) v m vars messages w r h =
      and-both _ _ (changed-known a v m vars messages r (and-left (knows v m a) (knows v m b) h)) (changed-known b v m vars messages r (and-right (knows v m a) (knows v m b) h))
  changed-told (Lt a b) v m vars messages w r h =
      and-both _ _ (changed-known a v m vars messages r (and-left (knows v m a) (knows v m b) h)) (changed-known b v m vars messages r (and-right (knows v m a) (knows v m b) h))
  changed-told (Le a b) v m vars messages w r h =
      and-both _ _ (changed-known a v m vars messages r (and-left (knows v m a) (knows v m b) h)) (changed-known b v m vars messages r (and-right (knows v m a) (knows v m b) h))
  changed-told (Not' _ (one_formula f end_formula)) v m vars messages w r h = changed-told f v m vars messages w r h
  changed-told (And' _ (one_formula f end_formula) _ (one_formula g end_formula)) v m vars messages w r h =
      and-both _ _ (changed-told f v m vars messages (within-front (bound_names f) (bound_names g) w) r (and-left (is_told_apart v m f) (is_told_apart v m g) h))
      (changed-told g v m vars messages (within-back (bound_names f) (bound_names g) w) r (and-right (is_told_apart v m f) (is_told_apart v m g) h))
  changed-told (Or' _ (one_formula f end_formula) _ (one_formula g end_formula)) v m vars messages w r h =
      and-both _ _ (changed-told f v m vars messages (within-front (bound_names f) (bound_names g) w) r (and-left (is_told_apart v m f) (is_told_apart v m g) h))
      (changed-told g v m vars messages (within-back (bound_names f) (bound_names g) w) r (and-right (is_told_apart v m f) (is_told_apart v m g) h))
  changed-told (Implies' _ (one_formula f end_formula) _ (one_formula g end_formula)) v m vars messages w r h =
      and-both _ _ (changed-told f v m vars messages (within-front (bound_names f) (bound_names g) w) r (and-left (is_told_apart v m f) (is_told_apart v m g) h))
      (changed-told g v m vars messages (within-back (bound_names f) (bound_names g) w) r (and-right (is_told_apart v m f) (is_told_apart v m g) h))
  changed-told (All' x _ (one_formula f end_formula)) v m vars messages w r h =
      let u = and-left (is_unknown v m x) (is_told_apart (x ∷ v) m f) h in
      and-both _ _ (passes.unknown v m vars messages r x (within-first x (bound_names f) w) u)
      (body-told (c.stops_at_variable x) f (changed c f) (x ∷ vars) messages (passes.goes v m vars messages r x u).0
      (changed-told f (x ∷ v) m (x ∷ vars) messages (within-rest x (bound_names f) w) (passes.variable v m vars messages r x u) (and-right (is_unknown v m x) (is_told_apart (x ∷ v) m f) h)))
  changed-told (Exists' x _ (one_formula f end_formula)) v m vars messages w r h =
      let u = and-left (is_unknown v m x) (is_told_apart (x ∷ v) m f) h in
      and-both _ _ (passes.unknown v m vars messages r x (within-first x (bound_names f) w) u)
      (body-told (c.stops_at_variable x) f (changed c f) (x ∷ vars) messages (passes.goes v m vars messages r x u).0
      (changed-told f (x ∷ v) m (x ∷ vars) messages (within-rest x (bound_names f) w) (passes.variable v m vars messages r x u) (and-right (is_unknown v m x) (is_told_apart (x ∷ v) m f) h)))
  changed-told (Each' n label tag _ (one_formula f end_formula)) v m vars messages w r h =
      let u = and-left (is_unknown v m n) (is_told_apart v (n ∷ m) f) h in
      and-both _ _ (passes.unknown v m vars messages r n (within-first n (bound_names f) w) u)
      (body-told (c.stops_at_message n) f (changed c f) vars (n ∷ messages) (passes.goes v m vars messages r n u).1
      (changed-told f v (n ∷ m) vars (n ∷ messages) (within-rest n (bound_names f) w) (passes.message v m vars messages r n u) (and-right (is_unknown v m n) (is_told_apart v (n ∷ m) f) h)))
  changed-told (Any' n label tag _ (one_formula f end_formula)) v m vars messages w r h =
      let u = and-left (is_unknown v m n) (is_told_apart v (n ∷ m) f) h in
      and-both _ _ (passes.unknown v m vars messages r n (within-first n (bound_names f) w) u)
      (body-told (c.stops_at_message n) f (changed c f) vars (n ∷ messages) (passes.goes v m vars messages r n u).1
      (changed-told f v (n ∷ m) vars (n ∷ messages) (within-rest n (bound_names f) w) (passes.message v m vars messages r n u) (and-right (is_unknown v m n) (is_told_apart v (n ∷ m) f) h)))
