-- A test at each number below a bound, or at some.
use Rattle.std.proofs.Common.{◌≡◌, ℕ, zero, suc, ◌+◌, ◌<◌, Bool, true, false, not, ◌&&◌, ◌||◌, refl, add-one, arith, ◌⊎◌, inl, inr}
use Rattle.dl_term.specs.Meaning.{every_below, some_below}

pub every_below-more : (n : ℕ) (test : ℕ → Bool) → every_below (n + 1) test ≡ (every_below n test && test n)
every_below-more n test = rw add-one refl

pub some_below-more : (n : ℕ) (test : ℕ → Bool) → some_below (n + 1) test ≡ (some_below n test || test n)
some_below-more n test = rw add-one refl

last_or_below : (k n : ℕ) → k < suc n → (k < n) ⊎ (k ≡ n)
last_or_below k n h = grind arith

and-false : (b : Bool) → (b && false) ≡ false
and-false true = refl
and-false false = refl

or-true : (b : Bool) → (b || true) ≡ true
or-true true = refl
or-true false = refl

pub every_below-false : (k n : ℕ) (test : ℕ → Bool) → k < n → test k ≡ false → every_below n test ≡ false
every_below-false k zero test h e = absurd (omega arith)
every_below-false k (suc n) test h e = elim (last_or_below k n h) [
  | inl below ↦ rw (every_below-false k n test below e) refl
  | inr last ↦ let at_last = rw last at e in rw at_last (and-false (every_below n test))
]

pub some_below-true : (k n : ℕ) (test : ℕ → Bool) → k < n → test k ≡ true → some_below n test ≡ true
some_below-true k zero test h e = absurd (omega arith)
some_below-true k (suc n) test h e = elim (last_or_below k n h) [
  | inl below ↦ rw (some_below-true k n test below e) refl
  | inr last ↦ let at_last = rw last at e in rw at_last (or-true (some_below n test))
]

and-left : (a b : Bool) → (a && b) ≡ true → a ≡ true
and-left true b h = refl
and-left false b h = cc

and-right : (a b : Bool) → (a && b) ≡ true → b ≡ true
and-right true b h = h
and-right false b h = cc

both : (a b : Bool) → a ≡ true → b ≡ true → (a && b) ≡ true
both a b p q = rw (p, q) refl

either : (a b : Bool) → (a || b) ≡ true → (a ≡ true) ⊎ (b ≡ true)
either true b h = inl refl
either false b h = inr h

pub every_below-at : (n : ℕ) (test : ℕ → Bool) → every_below n test ≡ true → (k : ℕ) → k < n → test k ≡ true
every_below-at zero test h k lt = absurd (omega arith)
every_below-at (suc n) test h k lt = elim (last_or_below k n lt) [
  | inl below ↦ every_below-at n test (and-left _ _ h) k below
  | inr last ↦ rw last (and-right _ _ h)
]

pub every_below-all : (n : ℕ) (test : ℕ → Bool) → ((k : ℕ) → k < n → test k ≡ true) → every_below n test ≡ true
every_below-all zero test h = refl
every_below-all (suc n) test h = both _ _ (every_below-all n test (λ k below. h k (omega arith))) (h n (omega arith))

pub some_below-found : (n : ℕ) (test : ℕ → Bool) → some_below n test ≡ true → (k : ℕ) × (k < n) × (test k ≡ true)
some_below-found zero test h = cc
some_below-found (suc n) test h = elim (either _ _ h) [
  | inl before ↦ let found = some_below-found n test before in (found.0, omega (arith, found.1), found.2)
  | inr last ↦ (n, omega arith, last)
]

-- two tests that answer the same below n
pub every_below-same : (n : ℕ) (p q : ℕ → Bool) → ((k : ℕ) → k < n → p k ≡ q k) → every_below n p ≡ every_below n q
every_below-same zero p q h = refl
every_below-same (suc n) p q h =
    let before = every_below-same n p q (λ k lt. h k (omega arith)) in
    let last = h n (omega arith) in
    λ i. before i && last i

pub some_below-same : (n : ℕ) (p q : ℕ → Bool) → ((k : ℕ) → k < n → p k ≡ q k) → some_below n p ≡ some_below n q
some_below-same zero p q h = refl
some_below-same (suc n) p q h =
    let before = some_below-same n p q (λ k lt. h k (omega arith)) in
    let last = h n (omega arith) in
    λ i. before i || last i

pub implied : (b c : Bool) → (not b || c) ≡ true → b ≡ true → c ≡ true
implied true c h e = h
implied false c h e = cc

pub implies-true : (b c : Bool) → (b ≡ true → c ≡ true) → (not b || c) ≡ true
implies-true true c h = h refl
implies-true false c h = refl

pub both-true : (a b : Bool) → (a && b) ≡ true → (a ≡ true) × (b ≡ true)
both-true a b h = (and-left a b h, and-right a b h)

pub and-true : (a b : Bool) → a ≡ true → b ≡ true → (a && b) ≡ true
and-true = both
