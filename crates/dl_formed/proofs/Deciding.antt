-- Tests that are true exactly where a fact holds.
use Rattle.std.proofs.Common.{◌≡◌, ℕ, zero, suc, ◌<◌, ◌≤◌, ◌==◌, Bool, true, false, not, ◌&&◌, List, [], ◌∷◌, ◌++◌, map, refl}
use Rattle.std.specs.Prelude.{nat_lt, nat_le, Some, slice_get}
use Rattle.std.specs.List.{list_all, flat_map, AllByRecursion as Each}
use Rattle.std.proofs.lemmas.Bool.{and_parts, and_from, not-true, not_from_false, ltb-true, leb-true, eqb-true, lt-ltb, le-leb, eq-eqb}

-- the test is true exactly where the fact holds
pub record Says (b : Bool) (P : Type 0) : Type 0 where
  pub there : b ≡ true → P
  pub back : P → b ≡ true

pub itself : (b : Bool) → Says b (b ≡ true)
itself b = record { there = λ e. e; back = λ e. e }

pub always : Says true (Unit {0})
always = record { there = λ e. tt; back = λ u. refl }

-- of another fact that holds just where this one does
pub said : {b : Bool} (P Q : Type 0) → (P → Q) → (Q → P) → Says b P → Says b Q
said P Q f g s = record { there = λ e. f (s.there e); back = λ q. s.back (g q) }

pub two : {a b : Bool} {P Q : Type 0} → Says a P → Says b Q → Says (a && b) (P × Q)
two {a} {b} s t = record {
  there = λ e. let h = and_parts a b e in (s.there h.0, t.there h.1);
  back = λ w. and_from a b (s.back w.0) (t.back w.1);
}

pub three : {a b c : Bool} {P Q R : Type 0} → Says a P → Says b Q → Says c R → Says (a && (b && c)) (P × Q × R)
three {P = P} {Q = Q} {R = R} s t u = said (P × (Q × R)) (P × Q × R) (λ w. (w.0, w.1.0, w.1.1)) (λ w. (w.0, (w.1, w.2))) (two s (two t u))

pub four : {a b c d : Bool} {P Q R S : Type 0} → Says a P → Says b Q → Says c R → Says d S → Says (a && (b && (c && d))) (P × Q × R × S)
four {P = P} {Q = Q} {R = R} {S = S} s t u v =
    said (P × (Q × (R × S))) (P × Q × R × S) (λ w. (w.0, w.1.0, w.1.1.0, w.1.1.1)) (λ w. (w.0, (w.1, (w.2, w.3)))) (two s (two t (two u v)))

pub lacks : (b : Bool) → Says (not b) (b ≡ false)
lacks b = record { there = not-true b; back = not_from_false b }

pub below : (a b : ℕ) → Says (nat_lt a b) (a < b)
below a b = record { there = ltb-true a b; back = lt-ltb a b }

pub at_most : (a b : ℕ) → Says (nat_le a b) (a ≤ b)
at_most a b = record { there = leb-true a b; back = le-leb a b }

pub equal : (a b : ℕ) → Says (a == b) (a ≡ b)
equal a b = record { there = eqb-true a b; back = eq-eqb a b }

-- ---- lists

pub each : {X : Type 0} (p : X → Bool) (P : X → Type 0) → ((x : X) → Says (p x) (P x)) → (xs : List X) → Says (list_all p xs) (Each P xs)
each p P h [] = record { there = λ e. tt; back = λ u. refl }
each p P h (x ∷ xs) = two (h x) (each p P h xs)

pub mapped : {X Y : Type 0} (f : X → Y) (p : X → Bool) (P : Y → Type 0) → ((x : X) → Says (p x) (P (f x))) → (xs : List X) → Says (list_all p xs) (Each P (map f xs))
mapped f p P h [] = record { there = λ e. tt; back = λ u. refl }
mapped f p P h (x ∷ xs) = two (h x) (mapped f p P h xs)

each-get : {X : Type 0} (P : X → Type 0) (xs : List X) → Each P xs → (i : ℕ) (x : X) → slice_get xs i ≡ Some x → P x
each-get P [] e i x h = absurd (cc h)
each-get P (y ∷ ys) e zero x h = let same : y ≡ x = cc h in rw (← same) e.0
each-get P (y ∷ ys) e (suc i) x h = each-get P ys e.1 i x h

get-each : {X : Type 0} (P : X → Type 0) (xs : List X) → ((i : ℕ) (x : X) → slice_get xs i ≡ Some x → P x) → Each P xs
get-each P [] h = tt
get-each P (x ∷ xs) h = (h 0 x refl, get-each P xs (λ i y e. h (suc i) y e))

pub each_at : {X : Type 0} (p : X → Bool) (P : X → Type 0) → ((x : X) → Says (p x) (P x)) → (xs : List X) →
    Says (list_all p xs) ((i : ℕ) (x : X) → slice_get xs i ≡ Some x → P x)
each_at p P h xs = record {
  there = λ e. each-get P xs ((each p P h xs).there e);
  back = λ w. (each p P h xs).back (get-each P xs w);
}

each-front : {X : Type 0} (P : X → Type 0) (xs ys : List X) → Each P (xs ++ ys) → Each P xs
each-front P [] ys h = tt
each-front P (x ∷ xs) ys h = (h.0, each-front P xs ys h.1)

each-back : {X : Type 0} (P : X → Type 0) (xs ys : List X) → Each P (xs ++ ys) → Each P ys
each-back P [] ys h = h
each-back P (x ∷ xs) ys h = each-back P xs ys h.1

each-join : {X : Type 0} (P : X → Type 0) (xs ys : List X) → Each P xs → Each P ys → Each P (xs ++ ys)
each-join P [] ys h k = k
each-join P (x ∷ xs) ys h k = (h.0, each-join P xs ys h.1 k)

pub joined : {X : Type 0} {a b : Bool} (P : X → Type 0) (xs ys : List X) → Says a (Each P xs) → Says b (Each P ys) → Says (a && b) (Each P (xs ++ ys))
joined P xs ys s t =
    said (Each P xs × Each P ys) (Each P (xs ++ ys)) (λ w. each-join P xs ys w.0 w.1) (λ e. (each-front P xs ys e, each-back P xs ys e)) (two s t)

pub flattened : {X Y : Type 0} (f : X → List Y) (p : X → Bool) (P : Y → Type 0) → ((x : X) → Says (p x) (Each P (f x))) → (xs : List X) →
    Says (list_all p xs) (Each P (flat_map f xs))
flattened f p P h [] = record { there = λ e. tt; back = λ u. refl }
flattened f p P h (x ∷ xs) = joined P (f x) (flat_map f xs) (h x) (flattened f p P h xs)
