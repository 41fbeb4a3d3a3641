-- The set of the obligations that have a proof.
use Rattle.std.proofs.Common.{◌≡◌, ℤ, Bool, List, [], ◌∷◌, ◌++◌, map, refl, ap}
use Rattle.std.specs.Prelude.{◌&&◌, Vec}
use Rattle.std.specs.Cmp.Lexicographic.{pointwise}
use Rattle.std.specs.List.{list_any}
use Rattle.std.specs.Ordering.{int_eq}
use Rattle.std.specs.Str.{bytes_eq}
use Rattle.std.proofs.lemmas.Cmp.{nat_list_eq_equiv, int_eq_equiv}
use Rattle.dl_forms.specs.Context.{Text}
use Rattle.dl_notation.specs.Environment.{ObligationName}
use Rattle.dl_notation.specs.Obligations.{same_texts}
use Rattle.dl_scope.specs.Walked.{claimed}

-- equal texts are the same texts, the other way round
pointwise-same : (xs ys : List Text) → pointwise bytes_eq xs ys ≡ same_texts ys xs
pointwise-same [] [] = refl
pointwise-same [] (y ∷ ys) = refl
pointwise-same (x ∷ xs) [] = refl
pointwise-same (x ∷ xs) (y ∷ ys) = rw (nat_list_eq_equiv.symm x y, pointwise-same xs ys) refl

-- the obligation is this one
abbrev pub is_claimed : ObligationName → ObligationName → Bool
is_claimed name proved = same_texts proved.texts name.texts && int_eq proved.number name.number

module _ {A : Type 0} where
  abbrev pub is_claim : Vec Text A × ℤ → Vec Text A × ℤ → Bool
  is_claim x y = pointwise bytes_eq x.0.items y.0.items && int_eq x.1 y.1

  same_claim : (x y : Vec Text A × ℤ) → is_claim x y ≡ is_claimed (claimed x) (claimed y)
  same_claim x y = rw (pointwise-same x.0.items y.0.items, int_eq_equiv.symm x.1 y.1) refl

  -- a claim is in the set where its obligation has a proof
  pub claims_among : (x : Vec Text A × ℤ) (ys : List (Vec Text A × ℤ)) → list_any (is_claim x) ys ≡ list_any (is_claimed (claimed x)) (map claimed ys)
  claims_among x [] = refl
  claims_among x (y ∷ ys) = rw (same_claim x y, claims_among x ys) refl

  -- one more claim is one more proved obligation
  pub claims-append : (xs ys : List (Vec Text A × ℤ)) → map claimed (xs ++ ys) ≡ map claimed xs ++ map claimed ys
  claims-append [] ys = refl
  claims-append (x ∷ xs) ys = ap (λ (rest : List ObligationName). claimed x ∷ rest) (claims-append xs ys)

pub ruleset claims = (claims_among, claims-append)
