-- Lists of what is wrong in which nothing stands.
use Rattle.std.proofs.Common.{◌≡◌, ℕ, ◌+◌, suc, Bool, true, false, List, [], ◌∷◌, ◌++◌, Some, refl, slice_get}
use Rattle.std.specs.List.{AllByRecursion as Each, flat_map, enumerate_from}
use Rattle.dl_faults.specs.declared.wrong.Wrong.{Wrong}
use Rattle.dl_faults.specs.Wrong.{unless}

pub front-none : {X : Type 0} (xs ys : List X) → xs ++ ys ≡ [] → xs ≡ []
front-none [] ys h = refl
front-none (x ∷ xs) ys h = cc

pub back-none : {X : Type 0} (xs ys : List X) → xs ++ ys ≡ [] → ys ≡ []
back-none [] ys h = h
back-none (x ∷ xs) ys h = cc

pub both-none : {X : Type 0} (xs ys : List X) → xs ≡ [] → ys ≡ [] → xs ++ ys ≡ []
both-none [] ys h k = k
both-none (x ∷ xs) ys h k = cc

pub each-none : {X Y : Type 0} (f : X → List Y) (xs : List X) → flat_map f xs ≡ [] → Each (λ x. f x ≡ []) xs
each-none f [] h = tt
each-none f (x ∷ xs) h = (front-none (f x) (flat_map f xs) h, each-none f xs (back-none (f x) (flat_map f xs) h))

-- of a list with its positions: for each one at some position
pub numbered-none : {X Y : Type 0} (f : ℕ × X → List Y) (n : ℕ) (xs : List X) → flat_map f (enumerate_from n xs) ≡ [] → Each (λ x. (k : ℕ) × (f (k, x) ≡ [])) xs
numbered-none f n [] h = tt
numbered-none f n (x ∷ xs) h =
    ((n, front-none (f (n, x)) (flat_map f (enumerate_from (n + 1) xs)) h), numbered-none f (n + 1) xs (back-none (f (n, x)) (flat_map f (enumerate_from (n + 1) xs)) h))

pub none-numbered : {X Y : Type 0} (f : ℕ × X → List Y) (n : ℕ) (xs : List X) → Each (λ x. (k : ℕ) → f (k, x) ≡ []) xs → flat_map f (enumerate_from n xs) ≡ []
none-numbered f n [] h = refl
none-numbered f n (x ∷ xs) h = both-none (f (n, x)) (flat_map f (enumerate_from (n + 1) xs)) (h.0 n) (none-numbered f (n + 1) xs h.1)

-- what holds at each position holds of each one
pub each-position : {X : Type 0} (P : X → Type 0) (xs : List X) → ((i : ℕ) (x : X) → slice_get xs i ≡ Some x → P x) → Each P xs
each-position P [] h = tt
each-position P (x ∷ xs) h = (h 0 x refl, each-position P xs (λ i y e. h (suc i) y e))

pub unless-fine : (b : Bool) (wrong : Wrong) → unless b wrong ≡ [] → b ≡ true
unless-fine true wrong h = refl
unless-fine false wrong h = cc

pub fine-unless : (b : Bool) (wrong : Wrong) → b ≡ true → unless b wrong ≡ []
fine-unless true wrong h = refl
fine-unless false wrong h = cc
