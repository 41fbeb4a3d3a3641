-- The places of things by their numbers.
use Rattle.std.proofs.Common.{◌≡◌, ℕ, zero, suc, ◌+◌, List, [], ◌∷◌, ◌++◌, map, slice_get, Some, refl, ap, sym, ◌∙◌, arith}
use Rattle.std.specs.List.{range_with_len}
use Rattle.dl_model.proofs.Small.{some-same}

range-last : (n a j : ℕ) → a + n ≡ j → range_with_len a (suc n) ≡ range_with_len a n ++ j ∷ []
range-last zero a j e = let here : a ≡ j = omega (e, arith) in ap (λ x. x ∷ []) here
range-last (suc n) a j e = ap (λ xs. a ∷ xs) (range-last n (a + 1) j (omega (e, arith)))

-- one more number at the end
pub range-more : (a n j : ℕ) → a + n ≡ j → range_with_len a (n + 1) ≡ range_with_len a n ++ j ∷ []
range-more a n j e = let on : n + 1 ≡ suc n = omega arith in ap (range_with_len a) on ∙ range-last n a j e

module _ {X : Type 0} (f : ℕ → X) where
  map-both : (xs ys : List ℕ) → map f (xs ++ ys) ≡ map f xs ++ map f ys
  map-both [] ys = refl
  map-both (x ∷ xs) ys = ap (λ rest. f x ∷ rest) (map-both xs ys)

  -- one more number
  pub one-further : (old new : List X) (x : X) (n : ℕ) → old ≡ map f (range_with_len 0 n) → x ≡ f n → new ≡ old ++ x ∷ [] → new ≡ map f (range_with_len 0 (n + 1))
  one-further old new x n e is more =
      more ∙ (ap (λ xs. xs ++ x ∷ []) e ∙ (ap (λ y. map f (range_with_len 0 n) ++ y ∷ []) is
      ∙ sym (ap (map f) (range-more 0 n n (omega arith)) ∙ map-both (range_with_len 0 n) (n ∷ []))))

  counted : (a n i : ℕ) (y : X) → slice_get (map f (range_with_len a n)) i ≡ Some y → y ≡ f (a + i)
  counted a zero i y e = cc
  counted a (suc n) zero y e = let here : a ≡ a + 0 = omega arith in sym (some-same (f a) y e) ∙ ap f here
  counted a (suc n) (suc i) y e = let here : (a + 1) + i ≡ a + suc i = omega arith in counted (a + 1) n i y e ∙ ap f here

  -- what stands at a number is that of the number
  pub stands-there : (xs : List X) (n i : ℕ) (y : X) → xs ≡ map f (range_with_len 0 n) → slice_get xs i ≡ Some y → y ≡ f i
  stands-there xs n i y e h = let here : 0 + i ≡ i = omega arith in counted 0 n i y (sym (ap (λ ys. slice_get ys i) e) ∙ h) ∙ ap f here
