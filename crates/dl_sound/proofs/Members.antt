-- What holds of each obligation of a list holds of one of them.
use Rattle.std.proofs.Common.{◌≡◌, ℕ, zero, suc, ◌+◌, ◌<◌, ◌==◌, Bool, true, false, if◌then◌else◌, Some, List, [], ◌∷◌, length, refl, sym, subst, eq-eqb, arith, inl, inr}
use Rattle.std.proofs.lemmas.Bool.{eqb-true}
use Rattle.std.specs.Prelude.{slice_get}
use Rattle.std.specs.List.{AllByRecursion as Each, flat_map, range_with_len}
use Rattle.dl_model.specs.Sorts.{has}
use Rattle.dl_model.proofs.Small.{each-front, each-back, or-true-left, or-true-right, either-true}
use Rattle.dl_inv.specs.Duties.{positions}

pub get-within : {X : Type 0} (xs : List X) (n : ℕ) (x : X) → slice_get xs n ≡ Some x → n < length xs
get-within [] n x e = cc
get-within (y ∷ ys) zero x e = omega arith
get-within (y ∷ ys) (suc n) x e = let rest = get-within ys n x e in omega (rest, arith)

pub within-get : {X : Type 0} (xs : List X) (n : ℕ) → n < length xs → (x : X) × (slice_get xs n ≡ Some x)
within-get [] n h = absurd (omega (h, arith))
within-get (y ∷ ys) zero h = (y, refl)
within-get (y ∷ ys) (suc n) h = within-get ys n (omega (h, arith))

has-range : (n a k : ℕ) → k < n → has (range_with_len a n) (a + k) ≡ true
has-range zero a k h = absurd (omega (h, arith))
has-range (suc n) a zero h = or-true-left (a + 0 == a) _ (eq-eqb (a + 0) a (omega arith))
has-range (suc n) a (suc k) h =
    let same : (a + 1) + k ≡ a + suc k = omega arith in
    or-true-right (a + suc k == a) _ (subst (λ m. has (range_with_len (a + 1) n) m ≡ true) same (has-range n (a + 1) k (omega (h, arith))))

pub has-position : {X : Type 0} (xs : List X) (n : ℕ) → n < length xs → has (positions xs) n ≡ true
has-position xs n h = let same : 0 + n ≡ n = omega arith in subst (λ m. has (positions xs) m ≡ true) same (has-range (length xs) 0 n h)

pub flat-at : {Y : Type 0} (P : Y → Type 0) (f : ℕ → List Y) (xs : List ℕ) (n : ℕ) → Each P (flat_map f xs) → has xs n ≡ true → Each P (f n)
flat-at P f [] n h m = cc
flat-at P f (x ∷ xs) n h m = elim (either-true (n == x) (has xs n) m) [
  | inl e ↦ subst (λ k. Each P (f k)) (sym (eqb-true n x e)) (each-front P (f x) (flat_map f xs) h)
  | inr e ↦ flat-at P f xs n (each-back P (f x) (flat_map f xs) h) e
]

pub if-there : {Y : Type 0} (P : Y → Type 0) (b : Bool) (y : Y) → Each P (if b then y ∷ [] else []) → b ≡ true → P y
if-there P true y h e = h.0
if-there P false y h e = cc
