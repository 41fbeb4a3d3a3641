-- The live ids after a message is added, and after one is received.
use Rattle.std.proofs.Common.{◌≡◌, ℕ, zero, suc, ◌+◌, ◌<◌, ◌≤◌, ◌==◌, Bool, true, false, ◌&&◌, not, cond, length, arith, Option, Some, None, List, [], ◌∷◌, ◌++◌, refl, ap, sym, ◌∙◌, eq-eqb, inl, inr, ◌⊎◌}
use Rattle.std.specs.Prelude.{slice_get}
use Rattle.std.specs.List.{filter, range_with_len, last_or}
use Rattle.std.proofs.lemmas.List.{length_push}
use Rattle.std.proofs.lemmas.List.Elements.{filter-append}
use Rattle.std.proofs.lemmas.Bool.{cases_eq}
use Rattle.dl_model.specs.Sorts.{has}
use Rattle.dl_model.specs.Steps.{change}
use Rattle.dl_model.proofs.Small.{eqb-other, or-true-left, or-true-right}
use Rattle.dl_soup.specs.Live.{is_alone, other_than}
use Rattle.dl_soup.proofs.Filtered.{filter-both, filter-same, filter-range, range-more}

pub get-before : {X : Type 0} (xs ys : List X) (k : ℕ) → k < length xs → slice_get (xs ++ ys) k ≡ slice_get xs k
get-before [] ys k h = absurd (omega arith)
get-before (x ∷ xs) ys zero h = refl
get-before (x ∷ xs) ys (suc k) h = get-before xs ys k (omega arith)

pub get-last : {X : Type 0} (xs : List X) (y : X) → slice_get (xs ++ y ∷ []) (length xs) ≡ Some y
get-last [] y = refl
get-last (x ∷ xs) y = get-last xs y

next : (n : ℕ) → n + 1 ≡ suc n
next n = omega arith

from-zero : (n : ℕ) → 0 + n ≡ n
from-zero n = omega arith

pub live-pushed : {X : Type 0} (t : Option X → Bool) (soup : List X) (m : X) → t (Some m) ≡ true
    → filter (λ id. t (slice_get (soup ++ m ∷ []) id)) (range_with_len 0 (length (soup ++ m ∷ []))) ≡ filter (λ id. t (slice_get soup id)) (range_with_len 0 (length soup)) ++ length soup ∷ []
live-pushed t soup m e =
    let p = λ (id : ℕ). t (slice_get (soup ++ m ∷ []) id) in
    let hit : p (length soup) ≡ true = ap t (get-last soup m) ∙ e in
    ap (λ ids. filter p ids) (ap (range_with_len 0) (length_push soup m ∙ next (length soup)) ∙ range-more 0 (length soup) ∙ ap (λ (n : ℕ). range_with_len 0 (length soup) ++ n ∷ []) (from-zero (length soup)))
    ∙ filter-append p (range_with_len 0 (length soup)) (length soup ∷ [])
    ∙ (λ i. filter-range p (λ id. t (slice_get soup id)) 0 (length soup) (λ id lt. ap t (get-before soup (m ∷ []) id (omega (arith, lt)))) i ++ cond (hit i) (length soup ∷ []) [])

pub length-change : {X : Type 0} (f : X → X) (xs : List X) (n : ℕ) → length (change f xs n) ≡ length xs
length-change f [] n = refl
length-change f (x ∷ xs) zero = refl
length-change f (x ∷ xs) (suc n) = ap suc (length-change f xs n)

pub change-other : {X : Type 0} (f : X → X) (xs : List X) (n k : ℕ) → (k ≡ n → ⊥) → slice_get (change f xs n) k ≡ slice_get xs k
change-other f [] n k h = refl
change-other f (x ∷ xs) zero zero h = absurd (h refl)
change-other f (x ∷ xs) zero (suc k) h = refl
change-other f (x ∷ xs) (suc n) zero h = refl
change-other f (x ∷ xs) (suc n) (suc k) h = change-other f xs n k (λ e. h (ap suc e))

change-here : {X : Type 0} (t : Option X → Bool) (f : X → X) (xs : List X) (n : ℕ) → ((x : X) → t (Some (f x)) ≡ false) → t None ≡ false → t (slice_get (change f xs n) n) ≡ false
change-here t f [] n h none = none
change-here t f (x ∷ xs) zero h none = h x
change-here t f (x ∷ xs) (suc n) h none = change-here t f xs n h none

and-true : (b : Bool) → (b && true) ≡ b
and-true true = refl
and-true false = refl

and-false : (b : Bool) → (b && false) ≡ false
and-false true = refl
and-false false = refl

-- the item that was changed doesn't pass any more, and each other one passes as before
change-passes : {X : Type 0} (t : Option X → Bool) (f : X → X) (xs : List X) (n k : ℕ) → ((x : X) → t (Some (f x)) ≡ false) → t None ≡ false
    → t (slice_get (change f xs n) k) ≡ (t (slice_get xs k) && other_than n k)
change-passes t f xs n k h none = elim (cases_eq k n) [
  | inl e ↦ ap (λ (j : ℕ). t (slice_get (change f xs n) j)) e ∙ change-here t f xs n h none
      ∙ sym (and-false (t (slice_get xs k))) ∙ ap (λ b. t (slice_get xs k) && not b) (sym (eq-eqb k n e))
  | inr e ↦ ap t (change-other f xs n k e) ∙ sym (and-true (t (slice_get xs k))) ∙ ap (λ b. t (slice_get xs k) && not b) (sym (eqb-other k n e))
]

pub live-changed : {X : Type 0} (t : Option X → Bool) (f : X → X) (soup : List X) (n : ℕ) → ((x : X) → t (Some (f x)) ≡ false) → t None ≡ false
    → filter (λ id. t (slice_get (change f soup n) id)) (range_with_len 0 (length (change f soup n))) ≡ filter (other_than n) (filter (λ id. t (slice_get soup id)) (range_with_len 0 (length soup)))
live-changed t f soup n h none =
    let p = λ (id : ℕ). t (slice_get (change f soup n) id) in
    let q = λ (id : ℕ). t (slice_get soup id) in
    ap (λ len. filter p (range_with_len 0 len)) (length-change f soup n)
    ∙ filter-same p (λ id. q id && other_than n id) (range_with_len 0 (length soup)) (λ id. change-passes t f soup n id h none)
    ∙ sym (filter-both (other_than n) q (range_with_len 0 (length soup)))

-- an id that is alone
pub alone-filter : (id : ℕ) (ids : List ℕ) → is_alone id ids ≡ true → filter (other_than id) ids ≡ []
alone-filter id [] e = refl
alone-filter id (only ∷ []) e = λ i. cond (not (e i)) (only ∷ []) []
alone-filter id (first ∷ second ∷ ids) e = cc

-- ---- what is taken is there

pub there : (xs : List ℕ) (n id : ℕ) → slice_get xs n ≡ Some id → has xs id ≡ true
there [] n id e = cc
there (x ∷ xs) zero id e = or-true-left (id == x) (has xs id) (eq-eqb id x cc)
there (x ∷ xs) (suc n) id e = or-true-right (id == x) (has xs id) (there xs n id e)

pub last-there : (xs : List ℕ) (o : Option ℕ) (id : ℕ) → last_or o xs ≡ Some id → (o ≡ Some id) ⊎ (has xs id ≡ true)
last-there [] o id e = inl e
last-there (x ∷ xs) o id e = elim (last-there xs (Some x) id e) [
  | inl f ↦ inr (or-true-left (id == x) (has xs id) (eq-eqb id x cc))
  | inr f ↦ inr (or-true-right (id == x) (has xs id) f)
]

pub last-nothing : (xs : List ℕ) (o : Option ℕ) → last_or o xs ≡ None → xs ≡ []
last-nothing [] o e = refl
last-nothing (x ∷ xs) o e = absurd (last-some xs x e)
  where
    last-some : (xs : List ℕ) (x : ℕ) → last_or (Some x) xs ≡ None → ⊥
    last-some [] x e = cc
    last-some (y ∷ ys) x e = last-some ys y e

pub past : (xs : List ℕ) (n : ℕ) → slice_get xs n ≡ None → length xs ≤ n
past [] n e = omega arith
past (x ∷ xs) zero e = cc
past (x ∷ xs) (suc n) e = omega (arith, past xs n e)
