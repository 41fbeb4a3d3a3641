-- With parts of a message put for variables, a formula is known where the message is.
use Rattle.std.proofs.Common.{◌≡◌, ℕ, pos, Bool, true, false, not, ◌||◌, ◌==◌, if◌then◌else◌, Some, None, unwrap_or, List, [], ◌∷◌, ◌++◌, refl, sym, eq-eqb, inl, inr}
use Rattle.std.proofs.lemmas.Bool.{false≢true}
use Rattle.std.specs.Prelude.{is_some, nat_le}
use Rattle.std.specs.List.{AllByRecursion as Each}
use Rattle.dl_term.specs.declared.syntax.Lab.{Lab}
use Rattle.dl_term.specs.declared.syntax.Lab.TheVariants.{Own, At}
use Rattle.dl_term.specs.declared.syntax.Term.{Term, Num, Word, Var, Field', Row', Len, Msg, Add', Sub', Mul', If', more_of-Term as one, end_of-Term as end}
use Rattle.dl_term.specs.declared.syntax.Formula.{Formula, True, False, Eq, Lt, Le, Not', And', Or', Implies', All', Exists', Each', Any', more_of-Formula as one_formula, end_of-Formula as end_formula}
use Rattle.dl_term.specs.Syntax.{opened}
use Rattle.dl_model.specs.declared.protocol.Instances.{Instances}
use Rattle.dl_model.specs.Sorts.{has}
use Rattle.dl_model.specs.Words.{first_name}
use Rattle.dl_model.specs.Spoken.{bound_names}
use Rattle.dl_model.specs.Scopes.{Scope, file_label, is_field, is_tag, is_fresh, TermIsKnown, FormulaIsKnown}
use Rattle.dl_model.proofs.Small.{and-left, and-right, and-both, or-left, or-right, or-both, or-true-left, or-true-right, either-true, eqb-other}
use Rattle.dl_subst.specs.Change.{changed_term}
use Rattle.dl_subst.specs.Substitution.{term_for, for_variables, label_put, terms_put}
use Rattle.dl_inv.proofs.Lists.{true-false, not-true, has-front, has-back}
use Rattle.dl_programs.proofs.Known.{file_scope}

not-false : (b : Bool) → not b ≡ true → b ≡ false
not-false true e = cc
not-false false e = refl

not-of : (b : Bool) → b ≡ false → not b ≡ true
not-of true e = cc
not-of false e = refl

module _ (inst : Instances) (variables xs : List ℕ) (terms : List Term) (j : ℕ) where
  abbrev scope_with : List ℕ → List ℕ → Scope
  scope_with vars messages = record { protocol = file_label inst; variables = vars; messages = messages }

  module _ (come : (vars messages : List ℕ) → has messages j ≡ true → Each (TermIsKnown (scope_with vars messages)) terms) where
    -- the messages, and this one besides
    record Beside (messages others : List ℕ) : Type 0 where
      more : (z : ℕ) → has messages z ≡ true → has others z ≡ true
      only : (z : ℕ) → has others z ≡ true → (z == j) ≡ false → has messages z ≡ true
      there : has others j ≡ true

    beside-under : (y : ℕ) (messages others : List ℕ) → Beside messages others → Beside (y ∷ messages) (y ∷ others)
    beside-under y messages others b = record {
      more = λ z h. elim (either-true (z == y) (has messages z) h) [ inl e ↦ or-true-left (z == y) (has others z) e | inr e ↦ or-true-right (z == y) (has others z) (b.more z e) ];
      only = λ z h n. elim (either-true (z == y) (has others z) h) [ inl e ↦ or-true-left (z == y) (has messages z) e | inr e ↦ or-true-right (z == y) (has messages z) (b.only z e n) ];
      there = or-true-right (j == y) (has others j) b.there;
    }

    choose : (scope : Scope) (b : Bool) (s t : Term) → TermIsKnown scope s → TermIsKnown scope t → TermIsKnown scope (if b then s else t)
    choose scope true s t h k = h
    choose scope false s t h k = k

    found : (scope : Scope) (old : Term) (ys : List ℕ) (ts : List Term) (z : ℕ) → TermIsKnown scope old → Each (TermIsKnown scope) ts → TermIsKnown scope (term_for old ys ts z)
    found scope old [] ts z h k = h
    found scope old (y ∷ ys) [] z h k = h
    found scope old (y ∷ ys) (t ∷ ts) z h k = found scope (if z == y then t else old) ys ts z (choose scope (z == y) t old k.0 h) k.1

    variable-put : (b : Bool) (z : ℕ) (vars others : List ℕ) → has vars z ≡ true → has others j ≡ true → TermIsKnown (scope_with vars others) (unwrap_or (if b then Some (term_for (Num (pos 0)) xs terms z) else None) (Var z))
    variable-put true z vars others h t = found (scope_with vars others) (Num (pos 0)) xs terms z refl (come vars others t)
    variable-put false z vars others h t = h

    label-known : (l : Lab) (P : Lab → Type 0) → P l → P (label_put Own l)
    label-known Own P h = h
    label-known (At l) P h = h

    term-put : (t : Term) (vars messages others : List ℕ) → TermIsKnown (scope_with vars messages) t → Beside messages others → TermIsKnown (scope_with vars others) (changed_term (for_variables xs terms Own) t)
    unfolding opened
    term-put (Num v) vars messages others h b = h
    term-put (Word s v) vars messages others h b = h
    term-put (Var z) vars messages others h b = variable-put (has xs z) z vars others h b.there
    term-put (Field' l f _ (one node end)) vars messages others h b = (label-known l (λ k. is_field (file_label inst k) f false ≡ true) h.0, term-put node vars messages others h.1 b)
    term-put (Row' l f _ (one node end) _ (one index end)) vars messages others h b =
        (label-known l (λ k. is_field (file_label inst k) f true ≡ true) h.0, term-put node vars messages others h.1 b, term-put index vars messages others h.2 b)
    term-put (Len l) vars messages others h b = label-known l (λ k. is_some (file_label inst k) ≡ true) h
    term-put (Msg k part) vars messages others h b = (b.more k h.0, h.1)
    term-put (Add' _ (one s end) _ (one t end)) vars messages others h b = (term-put s vars messages others h.0 b, term-put t vars messages others h.1 b)
    term-put (Sub' _ (one s end) _ (one t end)) vars messages others h b = (term-put s vars messages others h.0 b, term-put t vars messages others h.1 b)
    term-put (Mul' _ (one s end) _ (one t end)) vars messages others h b = (term-put s vars messages others h.0 b, term-put t vars messages others h.1 b)
    term-put (If' _ (one s end) _ (one t end) _ (one u end) _ (one v end)) vars messages others h b =
        (term-put s vars messages others h.0 b, term-put t vars messages others h.1 b, term-put u vars messages others h.2 b, term-put v vars messages others h.3 b)

    -- a binder that is not the message stays fresh
    fresh-beside : (vars messages others : List ℕ) (y : ℕ) → is_fresh (scope_with vars messages) y ≡ true → (y == j) ≡ false → Beside messages others → is_fresh (scope_with vars others) y ≡ true
    fresh-beside vars messages others y h n b =
        let lack = not-false (has vars y || has messages y) (and-right (nat_le first_name y) (not (has vars y || has messages y)) h) in
        and-both (nat_le first_name y) (not (has vars y || has others y)) (and-left (nat_le first_name y) (not (has vars y || has messages y)) h)
        (not-of (has vars y || has others y) (or-both (has vars y) (has others y) (or-left (has vars y) (has messages y) lack)
        (not-true (has others y) (λ e. true-false (has messages y) (b.only y e n) (or-right (has vars y) (has messages y) lack)))))

    -- the message is none of what is bound
    abbrev Lacks : List ℕ → Type 0
    Lacks bound = has bound j ≡ false

    other-first : (y : ℕ) (bound : List ℕ) → Lacks (y ∷ bound) → (y == j) ≡ false
    other-first y bound h = eqb-other y j (λ e. true-false (j == y) (eq-eqb j y (sym e)) (or-left (j == y) (has bound j) h))

    in-front : (xs ys : List ℕ) → Lacks (xs ++ ys) → Lacks xs
    in-front xs ys h = not-true (has xs j) (λ e. true-false (has (xs ++ ys) j) (has-front xs ys j e) h)

    in-back : (xs ys : List ℕ) → Lacks (xs ++ ys) → Lacks ys
    in-back xs ys h = not-true (has ys j) (λ e. true-false (has (xs ++ ys) j) (has-back xs ys j e) h)

    known-put : (f : Formula) (vars messages others : List ℕ) → FormulaIsKnown (scope_with vars messages) f → Lacks (bound_names f) → Beside messages others → FormulaIsKnown (scope_with vars others) (terms_put f xs terms Own)
    unfolding opened
    known-put True vars messages others h n b = tt
    known-put False vars messages others h n b = tt
    known-put (Eq s t) vars messages others h n b = (term-put s vars messages others h.0 b, term-put t vars messages others h.1 b)
    known-put (Lt s t) vars messages others h n b = (term-put s vars messages others h.0 b, term-put t vars messages others h.1 b)
    known-put (Le s t) vars messages others h n b = (term-put s vars messages others h.0 b, term-put t vars messages others h.1 b)
    known-put (Not' _ (one_formula f end_formula)) vars messages others h n b = known-put f vars messages others h n b
    known-put (And' _ (one_formula f end_formula) _ (one_formula g end_formula)) vars messages others h n b =
        (known-put f vars messages others h.0 (in-front (bound_names f) (bound_names g) n) b, known-put g vars messages others h.1 (in-back (bound_names f) (bound_names g) n) b)
    known-put (Or' _ (one_formula f end_formula) _ (one_formula g end_formula)) vars messages others h n b =
        (known-put f vars messages others h.0 (in-front (bound_names f) (bound_names g) n) b, known-put g vars messages others h.1 (in-back (bound_names f) (bound_names g) n) b)
    known-put (Implies' _ (one_formula f end_formula) _ (one_formula g end_formula)) vars messages others h n b =
        (known-put f vars messages others h.0 (in-front (bound_names f) (bound_names g) n) b, known-put g vars messages others h.1 (in-back (bound_names f) (bound_names g) n) b)
    known-put (All' y _ (one_formula f end_formula)) vars messages others h n b =
        (fresh-beside vars messages others y h.0 (other-first y (bound_names f) n) b, known-put f (y ∷ vars) messages others h.1 (or-right (j == y) (has (bound_names f) j) n) b)
    known-put (Exists' y _ (one_formula f end_formula)) vars messages others h n b =
        (fresh-beside vars messages others y h.0 (other-first y (bound_names f) n) b, known-put f (y ∷ vars) messages others h.1 (or-right (j == y) (has (bound_names f) j) n) b)
    known-put (Each' k label tag _ (one_formula f end_formula)) vars messages others h n b = (
      fresh-beside vars messages others k h.0 (other-first k (bound_names f) n) b,
      label-known label (λ l. is_tag (file_label inst l) tag ≡ true) h.1,
      known-put f vars (k ∷ messages) (k ∷ others) h.2 (or-right (j == k) (has (bound_names f) j) n) (beside-under k messages others b),
    )
    known-put (Any' k label tag _ (one_formula f end_formula)) vars messages others h n b = (
      fresh-beside vars messages others k h.0 (other-first k (bound_names f) n) b,
      label-known label (λ l. is_tag (file_label inst l) tag ≡ true) h.1,
      known-put f vars (k ∷ messages) (k ∷ others) h.2 (or-right (j == k) (has (bound_names f) j) n) (beside-under k messages others b),
    )

    -- The formula is known over the variables, and the terms where the message is. With the terms put for any of the variables it is
    -- known over the variables and the message.
    pub message-put : (f : Formula) → FormulaIsKnown (file_scope inst variables) f → has (bound_names f) j ≡ false → FormulaIsKnown (scope_with variables (j ∷ [])) (terms_put f xs terms Own)
    message-put f h n = known-put f variables [] (j ∷ []) h n (record {
      more = λ z e. absurd (false≢true e);
      only = λ z e m. absurd (true-false (z == j) (single (z == j) e) m);
      there = or-true-left (j == j) false (eq-eqb j j refl);
    })
      where
        single : (b : Bool) → (b || false) ≡ true → b ≡ true
        single true e = refl
        single false e = absurd (false≢true e)
