-- A number of 64 bits is in the range of i64.
use Rattle.std.proofs.Common.{◌≡◌, ℕ, ◌-◌, ◌^◌, ◌<◌, ◌≤◌, min, ℤ, pos, negsuc, Bool, true, false, Some, None, refl, sym, ap, ◌∙◌, arith}
use Rattle.std.specs.Prelude.{nat_lt, if◌then◌else◌}
use Rattle.std.proofs.lemmas.Bool.{le-leb, ltb-true, ltb-false, le-ltb}
use mir.Syntax.{w64}
use mir.Val.{SFits}
use Rattle.dl_model.specs.Sorts.{is_i64}
use Rattle.dl_formed.specs.Known.{within}

pub in-range : (v : ℤ) → SFits w64 v → is_i64 v ≡ true
in-range (pos n) f = le-leb n 0x7fff_ffff_ffff_ffff (omega (arith, f.sfits))
in-range (negsuc n) f = rw (le-leb n 0x7fff_ffff_ffff_ffff (omega (arith, f.sfits))) refl

-- a number that was cut off at the greatest one of 128 bits
pub within-saturated : (m n : ℕ) → m ≡ min n (2 ^ 128 - 1) → within m ≡ within n
within-saturated m n e = go (nat_lt n (2 ^ 127)) refl
  where
    go : (b : Bool) → nat_lt n (2 ^ 127) ≡ b → within m ≡ within n
    go true h =
        let small : n < 2 ^ 127 = ltb-true n (2 ^ 127) h in
        let same : m ≡ n = omega arith in
        ap within same
    go false h =
        let large : 2 ^ 127 ≤ n = ltb-false n (2 ^ 127) h in
        let too : 2 ^ 127 ≤ m = omega arith in
        ap (λ (b : Bool). if b then Some m else None) (le-ltb m (2 ^ 127) too) ∙ sym (ap (λ (b : Bool). if b then Some n else None) h)
