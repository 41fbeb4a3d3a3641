-- Names that may not be bound.
use Rattle.std.proofs.Common.{◌≡◌, ℕ, suc, Bool, true, false, List, [], ◌∷◌, ◌++◌, Option, Some, None, length, map, refl, ap, sym, ◌∙◌, subst, inl, inr, arith, ◌+◌, add-one, slice_get}
use Rattle.std.specs.Prelude.{is_some, ◌||◌, position}
use Rattle.std.specs.List.{AllByRecursion, IsDistinct, position_from}
use Rattle.std.specs.Option.{option_map}
use Rattle.std.proofs.lemmas.Iterator.Adapters.{position_from-zero}
use Rattle.std.proofs.lemmas.Slice.Eq.{bytes_eq-Decides}
use Rattle.std.specs.Str.{bytes_eq}
use Rattle.dl_forms.specs.Table.{NameTable as Names}
use Rattle.dl_forms.specs.declared.scope.Scope.{Scope}
use Rattle.dl_model.specs.declared.protocol.Instances.{Instances}
use Rattle.dl_forms.specs.Context.{Text, is_among}
use Rattle.dl_forms.specs.declared.scope.Marks.{Marks}
use Rattle.dl_forms.specs.Table.{has_mark, mark_in}
use Rattle.dl_forms.specs.Scope.{Binding, text_at, first_named, taken, taken_outside, bound_names, in_scope, marked}
use Rattle.dl_forms.proofs.NameLemmas.{split}

pub is_among-append : (t : Text) (xs ys : List Text) → is_among t (xs ++ ys) ≡ (is_among t xs || is_among t ys)
is_among-append t [] ys = refl
is_among-append t (x ∷ xs) ys = elim (split (bytes_eq t x)) [ inl e ↦ rw e refl | inr e ↦ rw e (is_among-append t xs ys) ]

pub among_first : (t : Text) (xs ys : List Text) → is_among t xs ≡ true → true ≡ is_among t (xs ++ ys)
among_first t xs ys h = sym (is_among-append t xs ys ∙ rw h refl)

pub among_later : (t : Text) (xs ys : List Text) (b : Bool) → is_among t xs ≡ false → b ≡ is_among t ys → b ≡ is_among t (xs ++ ys)
among_later t xs ys b h is = is ∙ sym (is_among-append t xs ys ∙ rw h refl)

pub is_among-taken : (names : Names) (scope : Scope) (inst : Instances) (bound : List Binding) (t : Text) →
    is_among t (taken names scope inst bound) ≡ (is_among t (map (text_at names) (bound_names bound)) || is_among t (taken_outside names scope inst))
is_among-taken names scope inst bound t = is_among-append t (map (text_at names) (bound_names bound)) (taken_outside names scope inst)

module _ {X : Type 0} (sym_of : X → ℕ) (names : Names) (t : Text) where
  among_numbers : (xs : List X) → is_some (first_named names t (map sym_of xs)) ≡ is_among t (map (λ x. text_at names (sym_of x)) xs)
  among_numbers [] = refl
  among_numbers (x ∷ xs) = elim (split (bytes_eq t (text_at names (sym_of x)))) [ inl e ↦ rw e refl | inr e ↦ rw e (among_numbers xs) ]

-- a variable or a message
pub among_scope : (names : Names) (scope : Scope) (t : Text) →
    is_among t (in_scope names scope) ≡ (is_some (first_named names t (map (λ v. v.0) scope.vars)) || is_some (first_named names t (map (λ m. m.0) scope.messages)))
among_scope names scope t =
    is_among-append t (map (λ v. text_at names v.0) scope.vars) (map (λ m. text_at names m.0) scope.messages)
    ∙ rw (among_numbers (λ v. v.0) names t scope.vars, among_numbers (λ m. m.0) names t scope.messages) refl

-- ---- marks

-- the mark of the first name with this text
abbrev pub mark_of : Bool → Option ℕ → List Marks → Bool
mark_of quantified (Some i) marks = has_mark quantified (mark_in (slice_get marks i))
mark_of quantified None marks = false

mark_of-next : (quantified : Bool) (o : Option ℕ) (mark : Marks) (marks : List Marks) → mark_of quantified (option_map (λ i. suc i) o) (mark ∷ marks) ≡ mark_of quantified o marks
mark_of-next quantified (Some i) mark marks = refl
mark_of-next quantified None mark marks = refl

-- counting from one more gives one more
position-shift : {K : Type 0} (test : K → Bool) (k : ℕ) (xs : List K) → position_from test (k + 1) xs ≡ option_map (λ i. suc i) (position_from test k xs)
position-shift test k [] = refl
position-shift test k (x ∷ xs) = elim (split (test x)) [
  | inl e ↦ rw (e, add-one) refl
  | inr e ↦ rw e (position-shift test (k + 1) xs)
]

module _ (quantified : Bool) where
  -- a text that is none of the names is none of those that are marked
  not_marked : (t : Text) (texts : List Text) (marks : List Marks) → AllByRecursion (λ y. bytes_eq t y ≡ false) texts → is_among t (marked quantified texts marks) ≡ false
  not_marked t [] marks apart = refl
  not_marked t (u ∷ texts) [] apart = refl
  not_marked t (u ∷ texts) (mark ∷ marks) apart = elim (split (has_mark quantified mark)) [
    | inl e ↦ rw (e, apart.0) (not_marked t texts marks apart.1)
    | inr e ↦ rw e (not_marked t texts marks apart.1)
  ]

  marked-from : (t : Text) (texts : List Text) (marks : List Marks) → IsDistinct bytes_eq texts → length marks ≡ length texts →
      mark_of quantified (position_from (bytes_eq t) 0 texts) marks ≡ is_among t (marked quantified texts marks)
  unfolding IsDistinct
  marked-from t [] marks distinct same = refl
  marked-from t (u ∷ texts) [] distinct same = absurd (omega (arith, same))
  marked-from t (u ∷ texts) (mark ∷ marks) distinct same = elim (split (bytes_eq t u)) [
    | inl e ↦ (let is : t ≡ u = (bytes_eq-Decides t u).0 e in
        elim (split (has_mark quantified mark)) [
          | inl m ↦ rw (e, m) (rw e refl)
          | inr m ↦ rw (e, m) (sym (not_marked t texts marks (subst (λ x. AllByRecursion (λ y. bytes_eq x y ≡ false) texts) (sym is) distinct.0)))
        ])
    | inr e ↦ (let rest = marked-from t texts marks distinct.1 (omega (arith, same)) in
        elim (split (has_mark quantified mark)) [
          | inl m ↦ rw (e, m, position-shift (bytes_eq t) 0 texts) (rw e (mark_of-next quantified (position_from (bytes_eq t) 0 texts) mark marks ∙ rest))
          | inr m ↦ rw (e, m, position-shift (bytes_eq t) 0 texts) (mark_of-next quantified (position_from (bytes_eq t) 0 texts) mark marks ∙ rest)
        ])
  ]

  pub marked-position : (t : Text) (texts : List Text) (marks : List Marks) → IsDistinct bytes_eq texts → length marks ≡ length texts →
      mark_of quantified (position (bytes_eq t) texts) marks ≡ is_among t (marked quantified texts marks)
  marked-position t texts marks distinct same =
      ap (λ (o : Option ℕ). mark_of quantified o marks) (position_from-zero (bytes_eq t) texts) ∙ marked-from t texts marks distinct same

pub ruleset marking = (marked-position)

pub ruleset taking = (is_among-taken, is_among-append, among_scope)
