-- Small facts on lists of names.
use Rattle.std.proofs.Common.{◌≡◌, ℕ, ◌==◌, Bool, true, false, ◌||◌, List, [], ◌∷◌, ◌++◌, refl, ap, sym, ◌∙◌, subst, eq-eqb, inl, inr, map, filter, if◌then◌else◌, zero, suc, ◌<◌, take, slice_get, unwrap_or, arith, Some}
use Rattle.std.proofs.lemmas.Bool.{eqb-true}
use Rattle.std.specs.List.{AllByRecursion as Each, list_all, flat_map}
use Rattle.dl_model.specs.Sorts.{has}
use Rattle.dl_model.proofs.Small.{and-left, and-right, and-both, or-true-left, or-true-right, either-true, eqb-other, lacks-front, lacks-back, or-both, or-left, or-right, some-same}

-- what all pass, each one of the list passes
pub all-at : (p : ℕ → Bool) (xs : List ℕ) (x : ℕ) → list_all p xs ≡ true → has xs x ≡ true → p x ≡ true
all-at p [] x h m = cc
all-at p (y ∷ ys) x h m = elim (either-true (x == y) (has ys x) m) [
  | inl e ↦ subst (λ z. p z ≡ true) (sym (eqb-true x y e)) (and-left (p y) (list_all p ys) h)
  | inr e ↦ all-at p ys x (and-right (p y) (list_all p ys) h) e
]

pub all-of-each : (p : ℕ → Bool) (xs : List ℕ) → ((x : ℕ) → has xs x ≡ true → p x ≡ true) → list_all p xs ≡ true
all-of-each p [] h = refl
all-of-each p (y ∷ ys) h = and-both (p y) (list_all p ys) (h y (or-true-left (y == y) (has ys y) (eq-eqb y y refl))) (all-of-each p ys (λ x m. h x (or-true-right (x == y) (has ys x) m)))

-- what holds of each one holds of one of the list
pub each-at : (P : ℕ → Type 0) (xs : List ℕ) (x : ℕ) → Each P xs → has xs x ≡ true → P x
each-at P [] x h m = cc
each-at P (y ∷ ys) x h m = elim (either-true (x == y) (has ys x) m) [
  | inl e ↦ subst P (sym (eqb-true x y e)) h.0
  | inr e ↦ each-at P ys x h.1 e
]

pub each-has : (P : ℕ → Type 0) (xs : List ℕ) → ((x : ℕ) → has xs x ≡ true → P x) → Each P xs
each-has P [] h = tt
each-has P (y ∷ ys) h = (h y (or-true-left (y == y) (has ys y) (eq-eqb y y refl)), each-has P ys (λ x m. h x (or-true-right (x == y) (has ys x) m)))

pub has-front : (xs ys : List ℕ) (n : ℕ) → has xs n ≡ true → has (xs ++ ys) n ≡ true
has-front [] ys n h = cc
has-front (x ∷ xs) ys n h = elim (either-true (n == x) (has xs n) h) [
  | inl e ↦ or-true-left (n == x) _ e
  | inr e ↦ or-true-right (n == x) _ (has-front xs ys n e)
]

pub has-back : (xs ys : List ℕ) (n : ℕ) → has ys n ≡ true → has (xs ++ ys) n ≡ true
has-back [] ys n h = h
has-back (x ∷ xs) ys n h = or-true-right (n == x) _ (has-back xs ys n h)

pub has-append : (xs ys : List ℕ) (n : ℕ) → has (xs ++ ys) n ≡ (has xs n || has ys n)
has-append [] ys n = refl
has-append (x ∷ xs) ys n = ap (λ b. (n == x) || b) (has-append xs ys n) ∙ turn (n == x) (has xs n) (has ys n)
  where
    turn : (a b c : Bool) → (a || (b || c)) ≡ ((a || b) || c)
    turn true b c = refl
    turn false b c = refl

-- a name of the list isn't one that the list lacks
pub lacked : (xs : List ℕ) (x y : ℕ) → has xs x ≡ true → has xs y ≡ false → (x == y) ≡ false
lacked xs x y h k = eqb-other x y (λ e. let one : true ≡ false = sym h ∙ ap (has xs) e ∙ k in cc)

pub true-false : (b : Bool) → b ≡ true → b ≡ false → ⊥
true-false b h k = cc

pub not-true : (b : Bool) → (b ≡ true → ⊥) → b ≡ false
not-true true h = absurd (h refl)
not-true false h = refl

-- a name that the joined lists lack, each one lacks
pub lacks-each : {X : Type 0} (f : X → List ℕ) (xs : List X) (n : ℕ) → has (flat_map f xs) n ≡ false → Each (λ x. has (f x) n ≡ false) xs
lacks-each f [] n h = tt
lacks-each f (x ∷ xs) n h = (lacks-front (f x) (flat_map f xs) n h, lacks-each f xs n (lacks-back (f x) (flat_map f xs) n h))

pub lacks-all : (xs ys : List ℕ) (n : ℕ) → has xs n ≡ false → has ys n ≡ false → has (xs ++ ys) n ≡ false
lacks-all [] ys n h k = k
lacks-all (x ∷ xs) ys n h k = or-both (n == x) (has (xs ++ ys) n) (or-left (n == x) (has xs n) h) (lacks-all xs ys n (or-right (n == x) (has xs n) h) k)

-- what would follow is false
pub absent : (b c : Bool) → (b ≡ true → c ≡ true) → c ≡ false → b ≡ false
absent true c h e = absurd (true-false c (h refl) e)
absent false c h e = refl

pub each-get : {X : Type 0} (P : X → Type 0) (xs : List X) (n : ℕ) (e : X) → P e → Each P xs → P (unwrap_or (slice_get xs n) e)
each-get P [] n e h k = h
each-get P (x ∷ xs) zero e h k = k.0
each-get P (x ∷ xs) (suc n) e h k = each-get P xs n e h k.1

-- the first so many of a list
pub each-take : {X : Type 0} (P : X → Type 0) (xs : List X) (n : ℕ) → ((j : ℕ) (x : X) → j < n → slice_get xs j ≡ Some x → P x) → Each P (take n xs)
each-take P [] zero h = tt
each-take P [] (suc n) h = tt
each-take P (x ∷ xs) zero h = tt
each-take P (x ∷ xs) (suc n) h = (h 0 x (omega arith) refl, each-take P xs n (λ j y l e. h (suc j) y (omega (l, arith)) e))

-- what is at a place holds what each one holds
pub each-found : {X : Type 0} (P : X → Type 0) (xs : List X) (k : ℕ) (x : X) → Each P xs → slice_get xs k ≡ Some x → P x
each-found P [] k x h e = cc
each-found P (y ∷ ys) zero x h e = subst P (some-same y x e) h.0
each-found P (y ∷ ys) (suc k) x h e = each-found P ys k x h.1 e

pub each-append : {X : Type 0} (P : X → Type 0) (xs ys : List X) → Each P xs → Each P ys → Each P (xs ++ ys)
each-append P [] ys h k = k
each-append P (x ∷ xs) ys h k = (h.0, each-append P xs ys h.1 k)

pub each-flat : {X Y : Type 0} (P : Y → Type 0) (f : X → List Y) (xs : List X) → Each (λ x. Each P (f x)) xs → Each P (flat_map f xs)
each-flat P f [] h = tt
each-flat P f (x ∷ xs) h = each-append P (f x) (flat_map f xs) h.0 (each-flat P f xs h.1)

-- what is made of those of the list that pass
module _ {Y : Type 0} (P : Y → Type 0) (g : ℕ → Y) (q : ℕ → Bool) where
  keep-first : (b : Bool) (x : ℕ) (ys : List ℕ) → (b ≡ true → P (g x)) → Each P (map g ys) → Each P (map g (if b then x ∷ ys else ys))
  keep-first true x ys h k = (h refl, k)
  keep-first false x ys h k = k

  pub each-kept : (xs : List ℕ) → ((x : ℕ) → has xs x ≡ true → q x ≡ true → P (g x)) → Each P (map g (filter q xs))
  each-kept [] h = tt
  each-kept (x ∷ xs) h = keep-first (q x) x (filter q xs) (h x (or-true-left (x == x) (has xs x) (eq-eqb x x refl))) (each-kept xs (λ y m. h y (or-true-right (y == x) (has xs y) m)))

  first-kept : (b : Bool) (x : ℕ) (ys : List ℕ) → Each P (map g (if b then x ∷ ys else ys)) → b ≡ true → P (g x)
  first-kept true x ys h e = h.0
  first-kept false x ys h e = cc

  rest-kept : (b : Bool) (x : ℕ) (ys : List ℕ) → Each P (map g (if b then x ∷ ys else ys)) → Each P (map g ys)
  rest-kept true x ys h = h.1
  rest-kept false x ys h = h

  pub kept-at : (xs : List ℕ) (x : ℕ) → Each P (map g (filter q xs)) → has xs x ≡ true → q x ≡ true → P (g x)
  kept-at [] x h m e = cc
  kept-at (y ∷ ys) x h m e = elim (either-true (x == y) (has ys x) m) [
    | inl s ↦ let one : x ≡ y = eqb-true x y s in subst (λ z. P (g z)) (sym one) (first-kept (q y) y (filter q ys) h (subst (λ z. q z ≡ true) one e))
    | inr s ↦ kept-at ys x (rest-kept (q y) y (filter q ys) h) s e
  ]
