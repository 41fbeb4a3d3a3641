-- What is left of a list in a loop over it.
use Rattle.std.proofs.Common.{◌≡◌, ℕ, ◌+◌, ◌-◌, ◌<◌, suc, List, ◌∷◌, length, get_or, drop, ap, add-one, arith}
use Rattle.std.proofs.Math.Seq.{drop-cons}
use Rattle.std.specs.List.{range_with_len}

pub rest-here : (xs : List ℕ) (i : ℕ) → i < length xs → drop i xs ≡ get_or xs i 0 ∷ drop (i + 1) xs
rest-here xs i h = rw (add-one, drop-cons xs i 0)

pub numbers-here : (i n : ℕ) → i < n → range_with_len i (n - i) ≡ i ∷ range_with_len (i + 1) (n - (i + 1))
numbers-here i n h =
    let e : n - i ≡ suc (n - (i + 1)) = omega arith in
    ap (range_with_len i) e
