-- Formulas of formed files: without free names, about the file, and written in one way.
use Rattle.std.proofs.Common.{◌≡◌, ℕ, Bool, true, false, not, ◌&&◌, ◌||◌, ◌==◌, Option, List, [], ◌∷◌, ◌++◌, refl, ◌∙◌, ap, sym, subst, eq-eqb, inl, inr}
use mathlib.Core.Path.{ap₂}
use Rattle.std.proofs.lemmas.Bool.{eqb-true, false≢true}
use Rattle.std.specs.Prelude.{is_some}
use Rattle.std.specs.List.{AllByRecursion as Each}
use Rattle.dl_term.specs.declared.syntax.Lab.{Lab}
use Rattle.dl_term.specs.declared.syntax.Part.{Part}
use Rattle.dl_term.specs.declared.syntax.Part.TheVariants.{Id, From, To, Live, Arg}
use Rattle.dl_term.specs.declared.syntax.Term.{Term, Num, Word, Var, Field', Row', Len, Msg, Add', Sub', Mul', If', more_of-Term as one, end_of-Term as end}
use Rattle.dl_term.specs.declared.syntax.Formula.{Formula, True, False, Eq, Lt, Le, Not', And', Or', Implies', All', Exists', Each', Any', more_of-Formula as one_formula, end_of-Formula as end_formula}
use Rattle.dl_term.specs.State.{State}
use Rattle.dl_term.specs.Names.{Names}
use Rattle.dl_term.specs.Meaning.{holds}
use Rattle.dl_term.specs.Measures.{has_message, is_free_variable, is_free_message}
use Rattle.dl_term.proofs.Agree.{holds-agree}
use Rattle.dl_model.specs.declared.protocol.Protocol.{Protocol}
use Rattle.dl_model.specs.Sorts.{has}
use Rattle.dl_model.specs.Spoken.{term_labels, labels_of}
use Rattle.dl_model.specs.Scopes.{Scope, with_variable, with_message, is_field, is_tag, TermIsKnown, FormulaIsKnown}
use Rattle.dl_model.proofs.Small.{and-left, and-right, either-true, or-true-left, or-true-right, each-front, each-back}
use Rattle.dl_subst.specs.Change.{and_name}
use Rattle.dl_wp.specs.Conditions.{part_fits, TermFits, FormulaFits}
use Rattle.dl_inv.specs.Touched.{Touch, field_touched, part_touched, term_touched, is_over, bound_live, formula_touched}
use Rattle.dl_sound.proofs.Bridge.{field-there, tag-there, free-known}
use Rattle.dl_sound.proofs.InStep.{scope_of}

-- ---- free messages

term-message : (scope : Scope) (m : ℕ) (t : Term) → TermIsKnown scope t → has_message t m ≡ true → has scope.messages m ≡ true
term-message scope m (Num v) h e = cc
term-message scope m (Word y v) h e = cc
term-message scope m (Var y) h e = cc
term-message scope m (Field' label field _ (one node end)) h e = term-message scope m node h.1 e
term-message scope m (Row' label field _ (one node end) _ (one index end)) h e = elim (either-true (has_message node m) (has_message index m) e) [
  | inl l ↦ term-message scope m node h.1 l
  | inr r ↦ term-message scope m index h.2 r
]
term-message scope m (Len label) h e = cc
term-message scope m (Msg k part) h e = subst (λ z. has scope.messages z ≡ true) (eqb-true k m e) h.0
term-message scope m (Add' _ (one a end) _ (one b end)) h e = elim (either-true (has_message a m) (has_message b m) e) [ inl l ↦ term-message scope m a h.0 l | inr r ↦ term-message scope m b h.1 r ]
term-message scope m (Sub' _ (one a end) _ (one b end)) h e = elim (either-true (has_message a m) (has_message b m) e) [ inl l ↦ term-message scope m a h.0 l | inr r ↦ term-message scope m b h.1 r ]
term-message scope m (Mul' _ (one a end) _ (one b end)) h e = elim (either-true (has_message a m) (has_message b m) e) [ inl l ↦ term-message scope m a h.0 l | inr r ↦ term-message scope m b h.1 r ]
term-message scope m (If' _ (one a end) _ (one b end) _ (one c end) _ (one d end)) h e = elim (either-true (has_message a m || has_message b m) (has_message c m || has_message d m) e) [
  | inl l ↦ elim (either-true (has_message a m) (has_message b m) l) [ inl k ↦ term-message scope m a h.0 k | inr k ↦ term-message scope m b h.1 k ]
  | inr r ↦ elim (either-true (has_message c m) (has_message d m) r) [ inl k ↦ term-message scope m c h.2 k | inr k ↦ term-message scope m d h.3 k ]
]

outside : (m y : ℕ) (xs : List ℕ) (free : Bool) → (not (y == m) && free) ≡ true → (free ≡ true → has (y ∷ xs) m ≡ true) → has xs m ≡ true
outside m y xs free e h = go (m == y) refl
  where
    go : (b : Bool) → (m == y) ≡ b → has xs m ≡ true
    go true q = absurd (false≢true (ap not (sym (eq-eqb y m (sym (eqb-true m y q)))) ∙ and-left (not (y == m)) free e))
    go false q = subst (λ b. (b || has xs m) ≡ true) q (h (and-right (not (y == m)) free e))

message-known : (m : ℕ) (f : Formula) (scope : Scope) → FormulaIsKnown scope f → is_free_message f m ≡ true → has scope.messages m ≡ true
message-known m True scope h e = cc
message-known m False scope h e = cc
message-known m (Eq a b) scope h e = elim (either-true (has_message a m) (has_message b m) e) [ inl l ↦ term-message scope m a h.0 l | inr r ↦ term-message scope m b h.1 r ]
message-known m (Lt a b) scope h e = elim (either-true (has_message a m) (has_message b m) e) [ inl l ↦ term-message scope m a h.0 l | inr r ↦ term-message scope m b h.1 r ]
message-known m (Le a b) scope h e = elim (either-true (has_message a m) (has_message b m) e) [ inl l ↦ term-message scope m a h.0 l | inr r ↦ term-message scope m b h.1 r ]
message-known m (Not' _ (one_formula f end_formula)) scope h e = message-known m f scope h e
message-known m (And' _ (one_formula f end_formula) _ (one_formula g end_formula)) scope h e = elim (either-true (is_free_message f m) (is_free_message g m) e) [ inl l ↦ message-known m f scope h.0 l | inr r ↦ message-known m g scope h.1 r ]
message-known m (Or' _ (one_formula f end_formula) _ (one_formula g end_formula)) scope h e = elim (either-true (is_free_message f m) (is_free_message g m) e) [ inl l ↦ message-known m f scope h.0 l | inr r ↦ message-known m g scope h.1 r ]
message-known m (Implies' _ (one_formula f end_formula) _ (one_formula g end_formula)) scope h e = elim (either-true (is_free_message f m) (is_free_message g m) e) [ inl l ↦ message-known m f scope h.0 l | inr r ↦ message-known m g scope h.1 r ]
message-known m (All' y _ (one_formula body end_formula)) scope h e = message-known m body (with_variable scope y) h.1 e
message-known m (Exists' y _ (one_formula body end_formula)) scope h e = message-known m body (with_variable scope y) h.1 e
message-known m (Each' y label tag _ (one_formula body end_formula)) scope h e = outside m y scope.messages (is_free_message body m) e (λ k. message-known m body (with_message scope y) h.2 k)
message-known m (Any' y label tag _ (one_formula body end_formula)) scope h e = outside m y scope.messages (is_free_message body m) e (λ k. message-known m body (with_message scope y) h.2 k)

-- no name is free in what is known without names
pub no-variable : (spoken : Lab → Option Protocol) (f : Formula) → FormulaIsKnown (scope_of spoken []) f → (x : ℕ) → is_free_variable f x ≡ false
no-variable spoken f h x = go (is_free_variable f x) refl
  where
    go : (b : Bool) → is_free_variable f x ≡ b → is_free_variable f x ≡ false
    go true e = absurd (false≢true (free-known x f (scope_of spoken []) h e))
    go false e = e

pub no-message : (spoken : Lab → Option Protocol) (f : Formula) → FormulaIsKnown (scope_of spoken []) f → (m : ℕ) → is_free_message f m ≡ false
no-message spoken f h m = go (is_free_message f m) refl
  where
    go : (b : Bool) → is_free_message f m ≡ b → is_free_message f m ≡ false
    go true e = absurd (false≢true (message-known m f (scope_of spoken []) h e))
    go false e = e

-- so it means one thing for all names with one `self`
pub closed-same : (spoken : Lab → Option Protocol) (f : Formula) (n m : Names) (state : State) → FormulaIsKnown (scope_of spoken []) f → n.own ≡ m.own → holds f n state ≡ holds f m state
closed-same spoken f n m state h e = holds-agree f n m state (record {
  own = e;
  number = λ x k. absurd (false≢true (sym (no-variable spoken f h x) ∙ k));
  message = λ x k. absurd (false≢true (sym (no-message spoken f h x) ∙ k));
})

-- ---- about the file

part-bound : (part : Part) → part_fits true part ≡ true
part-bound Id = refl
part-bound From = refl
part-bound To = refl
part-bound Live = refl
part-bound (Arg k) = refl

module _ (spoken : Lab → Option Protocol) where
  -- each label that may be named is spoken of, and each message is bound
  record Covered (scope : Scope) (bound : ℕ → Bool) : Type 0 where
    labels : (l : Lab) → is_some (scope.protocol l) ≡ true → spoken l ≡ scope.protocol l
    messages : (m : ℕ) → has scope.messages m ≡ true → bound m ≡ true

  term-fits : (scope : Scope) (bound : ℕ → Bool) (t : Term) → TermIsKnown scope t → Covered scope bound → TermFits spoken bound t
  term-fits scope bound (Num v) h c = tt
  term-fits scope bound (Word x v) h c = tt
  term-fits scope bound (Var x) h c = tt
  term-fits scope bound (Field' label field _ (one node end)) h c =
      (subst (λ o. is_field o field false ≡ true) (sym (c.labels label (field-there (scope.protocol label) field false h.0))) h.0, term-fits scope bound node h.1 c)
  term-fits scope bound (Row' label field _ (one node end) _ (one index end)) h c = (
    subst (λ o. is_field o field true ≡ true) (sym (c.labels label (field-there (scope.protocol label) field true h.0))) h.0,
    term-fits scope bound node h.1 c,
    term-fits scope bound index h.2 c,
  )
  term-fits scope bound (Len label) h c = subst (λ o. is_some o ≡ true) (sym (c.labels label h)) h
  term-fits scope bound (Msg m part) h c = ap (λ b. part_fits b part) (c.messages m h.0) ∙ part-bound part
  term-fits scope bound (Add' _ (one a end) _ (one b end)) h c = (term-fits scope bound a h.0 c, term-fits scope bound b h.1 c)
  term-fits scope bound (Sub' _ (one a end) _ (one b end)) h c = (term-fits scope bound a h.0 c, term-fits scope bound b h.1 c)
  term-fits scope bound (Mul' _ (one a end) _ (one b end)) h c = (term-fits scope bound a h.0 c, term-fits scope bound b h.1 c)
  term-fits scope bound (If' _ (one a end) _ (one b end) _ (one x end) _ (one y end)) h c =
      (term-fits scope bound a h.0 c, term-fits scope bound b h.1 c, term-fits scope bound x h.2 c, term-fits scope bound y h.3 c)

  covered-variable : (scope : Scope) (bound : ℕ → Bool) (x : ℕ) → Covered scope bound → Covered (with_variable scope x) bound
  covered-variable scope bound x c = record { labels = c.labels; messages = c.messages }

  covered-message : (scope : Scope) (bound : ℕ → Bool) (m : ℕ) → Covered scope bound → Covered (with_message scope m) (and_name m bound)
  covered-message scope bound m c = record {
    labels = c.labels;
    messages = λ k h. elim (either-true (k == m) (has scope.messages k) h) [
      | inl e ↦ or-true-left (k == m) (bound k) e
      | inr e ↦ or-true-right (k == m) (bound k) (c.messages k e)
    ];
  }

  label-spoken : (scope : Scope) (bound : ℕ → Bool) (label : Lab) (tag : ℕ) → is_tag (scope.protocol label) tag ≡ true → Covered scope bound → is_some (spoken label) ≡ true
  label-spoken scope bound label tag h c =
      let there = tag-there (scope.protocol label) tag h in subst (λ o. is_some o ≡ true) (sym (c.labels label there)) there

  formula-fits : (f : Formula) (scope : Scope) (bound : ℕ → Bool) → FormulaIsKnown scope f → Covered scope bound → FormulaFits spoken bound f
  formula-fits True scope bound h c = tt
  formula-fits False scope bound h c = tt
  formula-fits (Eq a b) scope bound h c = (term-fits scope bound a h.0 c, term-fits scope bound b h.1 c)
  formula-fits (Lt a b) scope bound h c = (term-fits scope bound a h.0 c, term-fits scope bound b h.1 c)
  formula-fits (Le a b) scope bound h c = (term-fits scope bound a h.0 c, term-fits scope bound b h.1 c)
  formula-fits (Not' _ (one_formula f end_formula)) scope bound h c = formula-fits f scope bound h c
  formula-fits (And' _ (one_formula f end_formula) _ (one_formula g end_formula)) scope bound h c = (formula-fits f scope bound h.0 c, formula-fits g scope bound h.1 c)
  formula-fits (Or' _ (one_formula f end_formula) _ (one_formula g end_formula)) scope bound h c = (formula-fits f scope bound h.0 c, formula-fits g scope bound h.1 c)
  formula-fits (Implies' _ (one_formula f end_formula) _ (one_formula g end_formula)) scope bound h c = (formula-fits f scope bound h.0 c, formula-fits g scope bound h.1 c)
  formula-fits (All' x _ (one_formula f end_formula)) scope bound h c = formula-fits f (with_variable scope x) bound h.1 (covered-variable scope bound x c)
  formula-fits (Exists' x _ (one_formula f end_formula)) scope bound h c = formula-fits f (with_variable scope x) bound h.1 (covered-variable scope bound x c)
  formula-fits (Each' m label tag _ (one_formula f end_formula)) scope bound h c =
      (label-spoken scope bound label tag h.1 c, formula-fits f (with_message scope m) (and_name m bound) h.2 (covered-message scope bound m c))
  formula-fits (Any' m label tag _ (one_formula f end_formula)) scope bound h c =
      (label-spoken scope bound label tag h.1 c, formula-fits f (with_message scope m) (and_name m bound) h.2 (covered-message scope bound m c))

  -- what is known without names, of labels that are spoken of
  pub closed-fits : (protocols : Lab → Option Protocol) (f : Formula) → FormulaIsKnown (scope_of protocols []) f → ((l : Lab) → is_some (protocols l) ≡ true → spoken l ≡ protocols l) → FormulaFits spoken (λ m. false) f
  closed-fits protocols f h same = formula-fits f (scope_of protocols []) (λ m. false) h (record { labels = same; messages = λ m k. absurd (false≢true k) })

-- ---- touched by labels that are told in another way

module _ (t : Touch) (here : Lab → Bool) where
  abbrev u : Touch
  u = record { here = here; tag = t.tag; fields = t.fields; grows = t.grows; spares_me = t.spares_me }

  abbrev Told : Lab → Type 0
  Told l = t.here l ≡ here l

  term-told : (live live' : ℕ → Bool) (s : Term) → live ≡ live' → Each Told (term_labels s) → term_touched t live s ≡ term_touched u live' s
  term-told live live' (Num v) p h = refl
  term-told live live' (Word x v) p h = refl
  term-told live live' (Var x) p h = refl
  term-told live live' (Field' label field _ (one node end)) p h =
      let a = h.0 in
      let b = term-told live live' node p h.1 in
      λ i. field_touched (record { here = λ l. a i; tag = t.tag; fields = t.fields; grows = t.grows; spares_me = t.spares_me }) label field node || b i
  term-told live live' (Row' label field _ (one node end) _ (one index end)) p h =
      let a = h.0 in
      let b = term-told live live' node p (each-front Told (term_labels node) (term_labels index) h.1) in
      let c = term-told live live' index p (each-back Told (term_labels node) (term_labels index) h.1) in
      λ i. field_touched (record { here = λ l. a i; tag = t.tag; fields = t.fields; grows = t.grows; spares_me = t.spares_me }) label field node || (b i || c i)
  term-told live live' (Len label) p h = ap (λ b. t.grows && b) h.0
  term-told live live' (Msg m part) p h = ap (λ (l : ℕ → Bool). part_touched part (l m)) p
  term-told live live' (Add' _ (one a end) _ (one b end)) p h =
      ap₂ ◌||◌ (term-told live live' a p (each-front Told (term_labels a) (term_labels b) h)) (term-told live live' b p (each-back Told (term_labels a) (term_labels b) h))
  term-told live live' (Sub' _ (one a end) _ (one b end)) p h =
      ap₂ ◌||◌ (term-told live live' a p (each-front Told (term_labels a) (term_labels b) h)) (term-told live live' b p (each-back Told (term_labels a) (term_labels b) h))
  term-told live live' (Mul' _ (one a end) _ (one b end)) p h =
      ap₂ ◌||◌ (term-told live live' a p (each-front Told (term_labels a) (term_labels b) h)) (term-told live live' b p (each-back Told (term_labels a) (term_labels b) h))
  term-told live live' (If' _ (one a end) _ (one b end) _ (one x end) _ (one y end)) p h =
      let tested = each-front Told (term_labels a ++ term_labels b) (term_labels x ++ term_labels y) h in
      let chosen = each-back Told (term_labels a ++ term_labels b) (term_labels x ++ term_labels y) h in
      ap₂ ◌||◌
      (ap₂ ◌||◌ (term-told live live' a p (each-front Told (term_labels a) (term_labels b) tested)) (term-told live live' b p (each-back Told (term_labels a) (term_labels b) tested)))
      (ap₂ ◌||◌ (term-told live live' x p (each-front Told (term_labels x) (term_labels y) chosen)) (term-told live live' y p (each-back Told (term_labels x) (term_labels y) chosen)))

  pub formula-told : (f : Formula) (live live' : ℕ → Bool) → live ≡ live' → Each Told (labels_of f) → formula_touched t live f ≡ formula_touched u live' f
  formula-told True live live' p h = refl
  formula-told False live live' p h = refl
  formula-told (Eq a b) live live' p h =
      ap₂ ◌||◌ (term-told live live' a p (each-front Told (term_labels a) (term_labels b) h)) (term-told live live' b p (each-back Told (term_labels a) (term_labels b) h))
  formula-told (Lt a b) live live' p h =
      ap₂ ◌||◌ (term-told live live' a p (each-front Told (term_labels a) (term_labels b) h)) (term-told live live' b p (each-back Told (term_labels a) (term_labels b) h))
  formula-told (Le a b) live live' p h =
      ap₂ ◌||◌ (term-told live live' a p (each-front Told (term_labels a) (term_labels b) h)) (term-told live live' b p (each-back Told (term_labels a) (term_labels b) h))
  formula-told (Not' _ (one_formula f end_formula)) live live' p h = formula-told f live live' p h
  formula-told (And' _ (one_formula f end_formula) _ (one_formula g end_formula)) live live' p h =
      ap₂ ◌||◌ (formula-told f live live' p (each-front Told (labels_of f) (labels_of g) h)) (formula-told g live live' p (each-back Told (labels_of f) (labels_of g) h))
  formula-told (Or' _ (one_formula f end_formula) _ (one_formula g end_formula)) live live' p h =
      ap₂ ◌||◌ (formula-told f live live' p (each-front Told (labels_of f) (labels_of g) h)) (formula-told g live live' p (each-back Told (labels_of f) (labels_of g) h))
  formula-told (Implies' _ (one_formula f end_formula) _ (one_formula g end_formula)) live live' p h =
      ap₂ ◌||◌ (formula-told f live live' p (each-front Told (labels_of f) (labels_of g) h)) (formula-told g live live' p (each-back Told (labels_of f) (labels_of g) h))
  formula-told (All' x _ (one_formula f end_formula)) live live' p h = formula-told f live live' p h
  formula-told (Exists' x _ (one_formula f end_formula)) live live' p h = formula-told f live live' p h
  formula-told (Each' m label tag _ (one_formula f end_formula)) live live' p h =
      let a = h.0 in
      let b = formula-told f (bound_live live m (not t.grows && is_over t label tag)) (bound_live live' m (not t.grows && is_over u label tag)) (λ i. bound_live (p i) m (not t.grows && (a i && (tag == t.tag)))) h.1 in
      λ i. (t.grows && (a i && (tag == t.tag))) || b i
  formula-told (Any' m label tag _ (one_formula f end_formula)) live live' p h =
      let a = h.0 in
      let b = formula-told f (bound_live live m (not t.grows && is_over t label tag)) (bound_live live' m (not t.grows && is_over u label tag)) (λ i. bound_live (p i) m (not t.grows && (a i && (tag == t.tag)))) h.1 in
      λ i. (t.grows && (a i && (tag == t.tag))) || b i
