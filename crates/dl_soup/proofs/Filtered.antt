-- What passes a test.
use Rattle.std.proofs.Common.{◌≡◌, ℕ, zero, suc, ◌+◌, ◌<◌, Bool, true, false, ◌&&◌, cond, length, take, drop, get_or, arith, Option, Some, List, [], ◌∷◌, ◌++◌, refl, ap, ◌∙◌}
use Rattle.std.specs.Prelude.{slice_get}
use Rattle.std.specs.List.{filter, range_with_len, last_or}
use Rattle.std.proofs.lemmas.List.{take_more, length_push}
use Rattle.std.proofs.lemmas.List.Elements.{filter-append}

-- what passes the second test of what passes the first one
cond-filter : {X : Type 0} (p : X → Bool) (a b : Bool) (x : X) (ys : List X) → p x ≡ b → filter p (cond a (x ∷ ys) ys) ≡ cond (a && b) (x ∷ filter p ys) (filter p ys)
cond-filter p true b x ys e = λ i. cond (e i) (x ∷ filter p ys) (filter p ys)
cond-filter p false b x ys e = refl

pub filter-both : {X : Type 0} (p q : X → Bool) (xs : List X) → filter p (filter q xs) ≡ filter (λ x. q x && p x) xs
filter-both p q [] = refl
filter-both p q (x ∷ xs) =
    cond-filter p (q x) (p x) x (filter q xs) refl ∙ (λ i. cond (q x && p x) (x ∷ filter-both p q xs i) (filter-both p q xs i))

pub filter-same : {X : Type 0} (p q : X → Bool) (xs : List X) → ((x : X) → p x ≡ q x) → filter p xs ≡ filter q xs
filter-same p q [] h = refl
filter-same p q (x ∷ xs) h = λ i. cond (h x i) (x ∷ filter-same p q xs h i) (filter-same p q xs h i)

pub filter-range : (p q : ℕ → Bool) (k n : ℕ) → ((id : ℕ) → id < k + n → p id ≡ q id) → filter p (range_with_len k n) ≡ filter q (range_with_len k n)
filter-range p q k zero h = refl
filter-range p q k (suc n) h =
    let rest = filter-range p q (k + 1) n (λ id lt. h id (omega (arith, lt))) in
    λ i. cond (h k (omega arith) i) (k ∷ rest i) (rest i)

both-first : (a b : Bool) → (b ≡ true → a ≡ true) → (a && b) ≡ b
both-first true b h = refl
both-first false true h = h refl
both-first false false h = refl

-- where the second test passes no more, it is enough
pub filter-of : {X : Type 0} (p q : X → Bool) (xs : List X) → ((x : X) → p x ≡ true → q x ≡ true) → filter p (filter q xs) ≡ filter p xs
filter-of p q xs h = filter-both p q xs ∙ filter-same (λ x. q x && p x) p xs (λ x. both-first (q x) (p x) (h x))

pub range-more : (k n : ℕ) → range_with_len k (suc n) ≡ range_with_len k n ++ (k + n) ∷ []
range-more k zero =
    let same : k ≡ k + 0 = omega arith in
    ap (λ (m : ℕ). m ∷ []) same
range-more k (suc n) =
    let same : (k + 1) + n ≡ k + suc n = omega arith in
    let rest : range_with_len (k + 1) (suc n) ≡ range_with_len (k + 1) n ++ (k + suc n) ∷ [] = range-more (k + 1) n ∙ ap (λ (m : ℕ). range_with_len (k + 1) n ++ m ∷ []) same in
    ap (λ (ms : List ℕ). k ∷ ms) rest

-- ---- one more item

pub filter-more : {X : Type 0} (p : X → Bool) (xs : List X) (i : ℕ) (d : X) → i < length xs → filter p (take (i + 1) xs) ≡ filter p (take i xs) ++ cond (p (get_or xs i d)) (get_or xs i d ∷ []) []
filter-more p xs i d h = ap (filter p) (take_more xs i d h) ∙ filter-append p (take i xs) (get_or xs i d ∷ [])

-- how many pass among one more
pub count-hit : {X : Type 0} (p : X → Bool) (xs : List X) (i : ℕ) (d : X) → i < length xs → p (get_or xs i d) ≡ true → length (filter p (take (i + 1) xs)) ≡ length (filter p (take i xs)) + 1
count-hit p xs i d h e =
    ap length (filter-more p xs i d h ∙ (λ j. filter p (take i xs) ++ cond (e j) (get_or xs i d ∷ []) []))
    ∙ length_push (filter p (take i xs)) (get_or xs i d)

append-nothing : {X : Type 0} (xs : List X) → xs ++ [] ≡ xs
append-nothing [] = refl
append-nothing (x ∷ xs) = ap (λ ys. x ∷ ys) (append-nothing xs)

pub filter-miss : {X : Type 0} (p : X → Bool) (xs : List X) (i : ℕ) (d : X) → i < length xs → p (get_or xs i d) ≡ false → filter p (take (i + 1) xs) ≡ filter p (take i xs)
filter-miss p xs i d h e =
    filter-more p xs i d h ∙ (λ j. filter p (take i xs) ++ cond (e j) (get_or xs i d ∷ []) []) ∙ append-nothing (filter p (take i xs))

-- ---- the one at a place

-- an item that passes stands after those that pass before it
pub passed-at : {X : Type 0} (p : X → Bool) (xs : List X) (i : ℕ) (d : X) → i < length xs → p (get_or xs i d) ≡ true → slice_get (filter p xs) (length (filter p (take i xs))) ≡ Some (get_or xs i d)
passed-at p [] i d h e = absurd (omega arith)
passed-at p (x ∷ xs) zero d h e = λ j. slice_get (cond (e j) (x ∷ filter p xs) (filter p xs)) 0
passed-at p (x ∷ xs) (suc i) d h e = go (p x) (passed-at p xs i d (omega arith) e)
  where
    go : (b : Bool) → slice_get (filter p xs) (length (filter p (take i xs))) ≡ Some (get_or xs i d)
        → slice_get (cond b (x ∷ filter p xs) (filter p xs)) (length (cond b (x ∷ filter p (take i xs)) (filter p (take i xs)))) ≡ Some (get_or xs i d)
    go true h = h
    go false h = h

-- ---- the last one

pub last-here : {X : Type 0} (p : X → Bool) (xs : List X) (i : ℕ) (d : X) (o : Option X) → i < length xs → p (get_or xs i d) ≡ true → filter p (drop (suc i) xs) ≡ [] → last_or o (filter p xs) ≡ Some (get_or xs i d)
last-here p [] i d o h e none = absurd (omega arith)
last-here p (x ∷ xs) zero d o h e none = (λ j. last_or o (cond (e j) (x ∷ filter p xs) (filter p xs))) ∙ ap (last_or (Some x)) none
last-here {X = X} p (x ∷ xs) (suc i) d o h e none = go (p x) (λ o. last-here p xs i d o (omega arith) e none)
  where
    go : (b : Bool) → ((o : Option X) → last_or o (filter p xs) ≡ Some (get_or xs i d)) → last_or o (cond b (x ∷ filter p xs) (filter p xs)) ≡ Some (get_or xs i d)
    go true h = h (Some x)
    go false h = h o

pub none-here : {X : Type 0} (p : X → Bool) (xs : List X) (i : ℕ) (d : X) → i < length xs → p (get_or xs i d) ≡ false → filter p (drop (suc i) xs) ≡ [] → filter p (drop i xs) ≡ []
none-here p [] i d h e none = absurd (omega arith)
none-here p (x ∷ xs) zero d h e none = (λ j. cond (e j) (x ∷ filter p xs) (filter p xs)) ∙ none
none-here p (x ∷ xs) (suc i) d h e none = none-here p xs i d (omega arith) e none
