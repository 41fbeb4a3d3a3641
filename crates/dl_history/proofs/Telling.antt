-- Small facts on tests, lists and loops.
use Rattle.std.proofs.Common.{◌≡◌, ◌↔◌, ℕ, zero, suc, ◌+◌, ◌<◌, Bool, true, false, Some, List, [], ◌∷◌, ◌++◌, take, length, get_or, add-one, ap, sym, ◌∙◌, subst, arith, inl, inr}
use Rattle.std.specs.Prelude.{slice_get}
use Rattle.std.specs.List.{AllZip}
use Rattle.std.proofs.lemmas.Bool.{cases_eq}
use Rattle.std.proofs.lemmas.Option.{slice_get-get_or}

-- what a test that failed says
pub told-not : (P : Type 0) (b : Bool) → ((b ≡ true) ↔ P) → b ≡ false → P → ⊥
told-not P b h f p = cc (sym f ∙ h.1 p)

-- a test that fails, where its fact can't be
pub told-never : (P : Type 0) → (P → ⊥) → (false ≡ true) ↔ P
told-never P never = record { 0 = λ t. cc; 1 = λ p. absurd (never p) }

-- the item at a place
pub found-item : {X : Type 0} (items xs : List X) (i : ℕ) (x : X) → items ≡ xs → i < length items → x ≡ get_or items i x → slice_get xs i ≡ Some x
found-item items xs i x same lt e = ap (λ ys. slice_get ys i) (sym same) ∙ slice_get-get_or items i x lt ∙ ap Some (sym e)

-- one pair more, at the end
zip-suc : {X Y : Type 0} (R : X → Y → Type 0) (xs : List X) (ys : List Y) (i : ℕ) (x : X) (y : Y) → i < length xs → x ≡ get_or xs i x → AllZip R (take i xs) ys → R x y → AllZip R (take (suc i) xs) (ys ++ y ∷ [])
zip-suc R [] ys i x y lt e h r = absurd (omega arith)
zip-suc R (z ∷ zs) [] zero x y lt e h r = (subst (λ w. R w y) e r, tt)
zip-suc R (z ∷ zs) (w ∷ ws) zero x y lt e h r = absurd h
zip-suc R (z ∷ zs) [] (suc i) x y lt e h r = absurd h
zip-suc R (z ∷ zs) (w ∷ ws) (suc i) x y lt e h r = (h.0, zip-suc R zs ws i x y (omega arith) e h.1 r)

pub zip-more : {X Y : Type 0} (R : X → Y → Type 0) (xs : List X) (ys : List Y) (i : ℕ) (x : X) (y : Y) → i < length xs → x ≡ get_or xs i x → AllZip R (take i xs) ys → R x y → AllZip R (take (i + 1) xs) (ys ++ y ∷ [])
zip-more R xs ys i x y lt e h r = subst (λ n. AllZip R (take n xs) (ys ++ y ∷ [])) (sym (add-one i)) (zip-suc R xs ys i x y lt e h r)

-- nothing is there below the next number
pub none-more : (P : ℕ → Type 0) (n : ℕ) → ((k : ℕ) → k < n → P k → ⊥) → (P n → ⊥) → (k : ℕ) → k < n + 1 → P k → ⊥
none-more P n before here k lt p = elim (cases_eq k n) [ inl q ↦ here (subst P q p) | inr apart ↦ before k (omega arith) p ]
