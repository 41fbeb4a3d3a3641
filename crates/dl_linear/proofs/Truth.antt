-- Tests and their truth.
use Rattle.std.proofs.Common.{◌≡◌, T, Bool, true, false, not, ◌&&◌, ◌||◌, refl}

pub and-left : (a b : Bool) → (a && b) ≡ true → a ≡ true
and-left true b h = refl
and-left false b h = cc

pub and-right : (a b : Bool) → (a && b) ≡ true → b ≡ true
and-right true b h = h
and-right false b h = cc

pub and-both : (a b : Bool) → a ≡ true → b ≡ true → (a && b) ≡ true
and-both a b p q = rw (p, q) refl

pub and-false : (a b : Bool) → b ≡ false → (a && b) ≡ false
and-false true b h = h
and-false false b h = refl

pub or-either : (a b : Bool) → (a || b) ≡ true → (P : Type 0) → (a ≡ true → P) → (b ≡ true → P) → P
or-either true b h P f g = f refl
or-either false b h P f g = g h

pub or-left : (a b : Bool) → a ≡ true → (a || b) ≡ true
or-left a b h = rw h refl

pub or-right : (a b : Bool) → b ≡ true → (a || b) ≡ true
or-right true b h = refl
or-right false b h = h

pub or-false : (a b : Bool) → (a || b) ≡ false → (a ≡ false) × (b ≡ false)
or-false true b h = cc
or-false false b h = (refl, h)

pub not-of : (a : Bool) → a ≡ false → not a ≡ true
not-of true h = cc
not-of false h = refl

pub of-not : (a : Bool) → not a ≡ true → a ≡ false
of-not true h = cc
of-not false h = refl

pub bool-false : (b : Bool) → (b ≡ true → ⊥) → b ≡ false
bool-false true h = absurd (h refl)
bool-false false h = refl

pub bool-true : (b : Bool) → (not b ≡ true → ⊥) → b ≡ true
bool-true true h = refl
bool-true false h = absurd (h refl)

pub to-T : (b : Bool) → b ≡ true → T b
to-T true h = tt
to-T false h = cc

pub from-T : (b : Bool) → T b → b ≡ true
from-T true h = refl
from-T false h = absurd h
