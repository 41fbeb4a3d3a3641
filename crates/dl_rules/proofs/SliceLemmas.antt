-- Slices of two and of four.
use Rattle.std.proofs.Common.{◌≡◌, List, [], ◌∷◌, length, get_or, ◌<◌, ◌≤◌, arith}

pub two : {X : Type 0} (xs : List X) (a b : X) → 2 ≤ length xs → length xs < 3 → a ≡ get_or xs 0 a → b ≡ get_or xs 1 b → xs ≡ a ∷ b ∷ []
two [] a b low high ea eb = absurd (omega (arith, low))
two (p ∷ []) a b low high ea eb = absurd (omega (arith, low))
two (p ∷ q ∷ []) a b low high ea eb = cc
two (p ∷ q ∷ r ∷ xs) a b low high ea eb = absurd (omega (arith, high))

pub four : {X : Type 0} (xs : List X) (a b x y : X) → 4 ≤ length xs → length xs < 5 →
    a ≡ get_or xs 0 a → b ≡ get_or xs 1 b → x ≡ get_or xs 2 x → y ≡ get_or xs 3 y → xs ≡ a ∷ b ∷ x ∷ y ∷ []
four [] a b x y low high ea eb ex ey = absurd (omega (arith, low))
four (p ∷ []) a b x y low high ea eb ex ey = absurd (omega (arith, low))
four (p ∷ q ∷ []) a b x y low high ea eb ex ey = absurd (omega (arith, low))
four (p ∷ q ∷ r ∷ []) a b x y low high ea eb ex ey = absurd (omega (arith, low))
four (p ∷ q ∷ r ∷ s ∷ []) a b x y low high ea eb ex ey = cc
four (p ∷ q ∷ r ∷ s ∷ o ∷ xs) a b x y low high ea eb ex ey = absurd (omega (arith, high))
