-- Lists that begin alike.
use Rattle.std.proofs.Common.{◌≡◌, Bool, true, false, Bor, ℕ, ◌+◌, ◌<◌, List, [], ◌∷◌, length, get_or, take, Option, Some, None, add-one, refl, ap, sym, ◌∙◌}
use Rattle.std.specs.Prelude.{slice_get, is_some, not}
use Rattle.std.specs.Option.{option_copied}
use Rattle.std.proofs.Math.Seq.{take-suc}
use Rattle.std.proofs.lemmas.Option.{get_or_from_slice_get, slice_get_within}

-- a list that has no element past the end of another one, and begins as that does
pub same-whole : {X : Type 0} (xs ys : List X) → take (length ys) xs ≡ take (length ys) ys → slice_get xs (length ys) ≡ None → xs ≡ ys
same-whole [] [] alike none = refl
same-whole [] (y ∷ ys) alike none = cc
same-whole (x ∷ xs) [] alike none = cc
same-whole (x ∷ xs) (y ∷ ys) alike none =
    let rest : take (length ys) xs ≡ take (length ys) ys = cc in
    let first : x ≡ y = cc in
    ap (λ zs. x ∷ zs) (same-whole xs ys rest none) ∙ ap (λ z. z ∷ ys) first

-- one more that is the same
pub one-more : {X : Type 0} (xs ys : List X) (i : ℕ) (x : X) → take i xs ≡ take i ys → slice_get xs i ≡ Some x → i < length ys → get_or ys i x ≡ x → take (i + 1) xs ≡ take (i + 1) ys
one-more xs ys i x alike there few same =
    rw (add-one, take-suc xs i x (slice_get_within xs i x there), take-suc ys i x few, get_or_from_slice_get xs i x x there, same, alike) refl

-- what a test for nothing says of what is lent out
pub none-there : {X : Type 0} (found : Option (Bor X)) (is : Bool) (there : Option X) → is_some found ≡ not is → is ≡ true → option_copied found ≡ there → there ≡ None
none-there None is there test none copied = sym copied
none-there (Some x) true there test none copied = cc
none-there (Some x) false there test none copied = cc
