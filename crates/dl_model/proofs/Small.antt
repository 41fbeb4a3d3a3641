-- Small facts on tests, options and lists.
use Rattle.std.proofs.Common.{◌≡◌, ℕ, ◌==◌, Bool, true, false, ◌&&◌, ◌||◌, Option, Some, None, List, [], ◌∷◌, ◌++◌, refl, ◌⊎◌, inl, inr}
use Rattle.std.proofs.lemmas.Bool.{eqb-true}
use Rattle.std.specs.List.{AllByRecursion as Each}
use Rattle.dl_model.specs.Sorts.{has}

pub and-left : (a b : Bool) → (a && b) ≡ true → a ≡ true
and-left true b h = refl
and-left false b h = cc

pub and-right : (a b : Bool) → (a && b) ≡ true → b ≡ true
and-right true b h = h
and-right false b h = cc

pub and-both : (a b : Bool) → a ≡ true → b ≡ true → (a && b) ≡ true
and-both true b h k = k
and-both false b h k = cc

pub or-left : (a b : Bool) → (a || b) ≡ false → a ≡ false
or-left false b h = refl
or-left true b h = cc

pub or-right : (a b : Bool) → (a || b) ≡ false → b ≡ false
or-right false b h = h
or-right true b h = cc

pub or-both : (a b : Bool) → a ≡ false → b ≡ false → (a || b) ≡ false
or-both false b h k = k
or-both true b h k = cc

pub eqb-other : (x y : ℕ) → (x ≡ y → ⊥) → (x == y) ≡ false
eqb-other x y h = go (x == y) refl
  where
    go : (b : Bool) → (x == y) ≡ b → (x == y) ≡ false
    go true e = absurd (h (eqb-true x y e))
    go false e = e

pub some-same : {X : Type 0} (a b : X) → Some a ≡ Some b → a ≡ b
some-same a b e = cc

pub some-none : {X : Type 0} (o : Option X) (a : X) → o ≡ Some a → o ≡ None → ⊥
some-none o a e f = cc (e, f)

pub each-map : {X : Type 0} (P Q : X → Type 0) (xs : List X) → Each P xs → ((x : X) → P x → Q x) → Each Q xs
each-map P Q [] h k = tt
each-map P Q (x ∷ xs) h k = (k x h.0, each-map P Q xs h.1 k)

pub each-zip : {X : Type 0} (P Q R : X → Type 0) (xs : List X) → Each P xs → Each Q xs → ((x : X) → P x → Q x → R x) → Each R xs
each-zip P Q R [] p q h = tt
each-zip P Q R (x ∷ xs) p q h = (h x p.0 q.0, each-zip P Q R xs p.1 q.1 h)

pub each-front : {X : Type 0} (P : X → Type 0) (xs ys : List X) → Each P (xs ++ ys) → Each P xs
each-front P [] ys h = tt
each-front P (x ∷ xs) ys h = (h.0, each-front P xs ys h.1)

pub each-back : {X : Type 0} (P : X → Type 0) (xs ys : List X) → Each P (xs ++ ys) → Each P ys
each-back P [] ys h = h
each-back P (x ∷ xs) ys h = each-back P xs ys h.1

pub lacks-front : (xs ys : List ℕ) (n : ℕ) → has (xs ++ ys) n ≡ false → has xs n ≡ false
lacks-front [] ys n h = refl
lacks-front (x ∷ xs) ys n h = or-both (n == x) (has xs n) (or-left (n == x) _ h) (lacks-front xs ys n (or-right (n == x) _ h))

pub lacks-back : (xs ys : List ℕ) (n : ℕ) → has (xs ++ ys) n ≡ false → has ys n ≡ false
lacks-back [] ys n h = h
lacks-back (x ∷ xs) ys n h = lacks-back xs ys n (or-right (n == x) _ h)

pub or-true-left : (a b : Bool) → a ≡ true → (a || b) ≡ true
or-true-left true b h = refl
or-true-left false b h = cc

pub or-true-right : (a b : Bool) → b ≡ true → (a || b) ≡ true
or-true-right true b h = refl
or-true-right false b h = h

pub either-true : (a b : Bool) → (a || b) ≡ true → (a ≡ true) ⊎ (b ≡ true)
either-true true b h = inl refl
either-true false b h = inr h
