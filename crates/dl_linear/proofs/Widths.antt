-- Numbers of 64 bits, and sums of them in 128 bits.
use Rattle.std.proofs.Common.{◌≡◌, ◌≤◌, ◌<◌, ◌-◌, ◌^◌, ℤ, pos, negsuc, ◌+ℤ◌, ◌-ℤ◌, ◌*ℤ◌, int_le, Bool, true, false, ◌&&◌, if◌then◌else◌, Some, None, Result, Ok, Err, FitsSigned, to_z, of_z, w64, unsigned_abs, arith, refl, sym, subst, ap, ◌∙◌}
use Rattle.std.proofs.Math.Nat.{mul-le-mul}
use Rattle.std.proofs.lemmas.Bool.{leb-true, le-leb}
use Rattle.std.specs.Prelude.{OkIff}
use Rattle.std.specs.Result.{result_ok}
use Rattle.std.proofs.lemmas.Int.{ints, to_z-of_z, fits_signed_from_abs, unsigned_abs-mul}
use mir.Syntax.{w128}
use Rattle.dl_term.proofs.Quantifiers.{both-true}
use Rattle.dl_linear.specs.Rows.{fits}
use Rattle.dl_linear.specs.Columns.{narrow}
use Rattle.dl_linear.proofs.Truth.{bool-false}

pub fits-signed : (z : ℤ) → fits z ≡ true → FitsSigned w64 z
fits-signed (pos n) h = let t = (both-true (int_le (negsuc (2 ^ 63 - 1)) (pos n)) (int_le (pos n) (pos (2 ^ 63 - 1))) h).1 in let le : n ≤ 2 ^ 63 - 1 = leb-true n (2 ^ 63 - 1) t in record { sfits = omega arith }
fits-signed (negsuc n) h = let t = (both-true (int_le (negsuc (2 ^ 63 - 1)) (negsuc n)) (int_le (negsuc n) (pos (2 ^ 63 - 1))) h).0 in let le : n ≤ 2 ^ 63 - 1 = leb-true n (2 ^ 63 - 1) t in record { sfits = omega arith }

abs-le : (a : ℤ) → FitsSigned w64 a → unsigned_abs a ≤ 2 ^ 63
abs-le a f = omega (arith, ints)

product-le : (a b : ℤ) → FitsSigned w64 a → FitsSigned w64 b → unsigned_abs (a *ℤ b) ≤ 2 ^ 126
product-le a b f g = rw unsigned_abs-mul (mul-le-mul (abs-le a f) (abs-le b g))

abs-add : (a b : ℤ) → unsigned_abs a ≤ 2 ^ 63 → unsigned_abs b ≤ 2 ^ 126 → unsigned_abs (a +ℤ b) < 2 ^ 127
abs-add a b p q = omega (arith, ints)

pub wider : (a : ℤ) → FitsSigned w64 a → FitsSigned w128 a
wider a f = fits_signed_from_abs w128 a (let le = abs-le a f in omega arith)

pub product-fits : (a b : ℤ) → FitsSigned w64 a → FitsSigned w64 b → FitsSigned w128 (a *ℤ b)
product-fits a b f g = fits_signed_from_abs w128 _ (let le = product-le a b f g in omega arith)

pub total-fits : (s a b : ℤ) → FitsSigned w64 s → FitsSigned w64 a → FitsSigned w64 b → FitsSigned w128 (s +ℤ a *ℤ b)
total-fits s a b f g h = fits_signed_from_abs w128 _ (abs-add s (a *ℤ b) (abs-le s f) (product-le a b g h))

-- the sum with a multiple, as 128 bits show it
pub spelled : (s a b : ℤ) → FitsSigned w64 s → FitsSigned w64 a → FitsSigned w64 b → (to_z w128 (of_z w128 s) +ℤ to_z w128 (of_z w128 (to_z w128 (of_z w128 a) *ℤ to_z w128 (of_z w128 b)))) ≡ s +ℤ a *ℤ b
spelled s a b f g h =
    let s' = to_z-of_z w128 s (wider s f) in
    let a' = to_z-of_z w128 a (wider a g) in
    let b' = to_z-of_z w128 b (wider b h) in
    let p' = to_z-of_z w128 (a *ℤ b) (product-fits a b g h) in
    rw (s', a', b', p') refl

signed-fits : (z : ℤ) → FitsSigned w64 z → fits z ≡ true
signed-fits (pos n) f = ap (λ b. true && b) (le-leb n (2 ^ 63 - 1) (omega (arith, ints)))
signed-fits (negsuc n) f = ap (λ b. b && true) (le-leb n (2 ^ 63 - 1) (omega (arith, ints)))

some-narrow : (test : Bool) (z : ℤ) → test ≡ true → Some z ≡ (if test then Some z else None)
some-narrow test z h = rw h refl

none-narrow : (test : Bool) (z : ℤ) → test ≡ false → None ≡ (if test then Some z else None)
none-narrow test z h = rw h refl

-- what a conversion to 64 bits gives
pub converted : {E : Type 0} (r : Result ℤ E) (y z : ℤ) → OkIff r (FitsSigned w64 y) y → y ≡ z → result_ok r ≡ narrow z
converted (Ok x) y z h e = ap Some (h.1 ∙ e) ∙ some-narrow (fits z) z (signed-fits z (subst (FitsSigned w64) e h.0))
converted (Err error) y z h e = none-narrow (fits z) z (bool-false _ (λ fit. h (subst (FitsSigned w64) (sym e) (fits-signed z fit))))

abs-less : (n a : ℤ) → unsigned_abs n ≤ 2 ^ 63 → unsigned_abs a ≤ 2 ^ 63 → (unsigned_abs (n -ℤ a) < 2 ^ 127) × (unsigned_abs (n -ℤ a) ≤ 2 ^ 64)
abs-less n a p q = (omega (arith, ints), omega (arith, ints))

abs-less-both : (n a b : ℤ) → unsigned_abs n ≤ 2 ^ 63 → unsigned_abs a ≤ 2 ^ 63 → unsigned_abs b ≤ 2 ^ 63 → unsigned_abs (n -ℤ a -ℤ b) < 2 ^ 127
abs-less-both n a b p q r = omega (arith, ints)

-- a number less two others, as 128 bits show it
pub spelled-less : (n a b n' a' b' : ℤ) → FitsSigned w64 n → FitsSigned w64 a → FitsSigned w64 b → n' ≡ n → a' ≡ a → b' ≡ b
    → to_z w128 (of_z w128 (to_z w128 (of_z w128 (to_z w128 (of_z w128 n') -ℤ to_z w128 (of_z w128 a'))) -ℤ to_z w128 (of_z w128 b'))) ≡ n -ℤ a -ℤ b
spelled-less n a b n' a' b' f g h p q r =
    let one = to_z-of_z w128 n (wider n f) in
    let two = to_z-of_z w128 a (wider a g) in
    let three = to_z-of_z w128 b (wider b h) in
    let some = to_z-of_z w128 (n -ℤ a) (fits_signed_from_abs w128 _ (abs-less n a (abs-le n f) (abs-le a g)).0) in
    let all = to_z-of_z w128 (n -ℤ a -ℤ b) (fits_signed_from_abs w128 _ (abs-less-both n a b (abs-le n f) (abs-le a g) (abs-le b h))) in
    (λ i. to_z w128 (of_z w128 (to_z w128 (of_z w128 (to_z w128 (of_z w128 (p i)) -ℤ to_z w128 (of_z w128 (q i)))) -ℤ to_z w128 (of_z w128 (r i)))))
    ∙ (λ i. to_z w128 (of_z w128 (to_z w128 (of_z w128 (one i -ℤ two i)) -ℤ three i)))
    ∙ (λ i. to_z w128 (of_z w128 (some i -ℤ b)))
    ∙ all
