-- Whole numbers: sums of products, and division with the quotient rounded down.
use Rattle.std.proofs.Common.{◌≡◌, ℕ, zero, suc, ◌+◌, ◌*◌, ◌<◌, ◌/◌, ℤ, pos, negsuc, ◌+ℤ◌, ◌*ℤ◌, ◌≤ℤ◌, ◌<ℤ◌, ◌∙◌, ap, arith}
use Rattle.std.specs.Int.{int_div_euclid, int_rem_euclid}
use Rattle.std.proofs.lemmas.Int.{ints, by_lt_z}
use Rattle.std.proofs.Math.IntN.{*ℤ_comm}
use borrow.Author.Differences.{product_is, up, down}

by : (k m n : ℕ) → m ≡ n → m * k ≡ n * k
by k m n e = ap (λ x. x * k) e

pub times-sum : (a b x : ℤ) → (a +ℤ b) *ℤ x ≡ a *ℤ x +ℤ b *ℤ x
times-sum a b x =
    let sum : up (a +ℤ b) + (down a + down b) ≡ down (a +ℤ b) + (up a + up b) = omega (arith, ints) in
    omega (arith, ints, product_is a x, product_is b x, product_is (a +ℤ b) x, by (up x) _ _ sum, by (down x) _ _ sum)

pub assoc : (a b c : ℤ) → (a *ℤ b) *ℤ c ≡ a *ℤ (b *ℤ c)
assoc a b c =
    let ab = product_is a b in
    let bc = product_is b c in
    let left = product_is (a *ℤ b) c in
    let right = product_is a (b *ℤ c) in
    omega (arith, ints, left, right, by (up c) _ _ ab.0, by (down c) _ _ ab.1, by (up a) _ _ bc.0, by (down a) _ _ bc.1, by (down c) _ _ ab.0, by (up c) _ _ ab.1, by (down a) _ _ bc.0, by (up a) _ _ bc.1)

pub sum-times : (x a b : ℤ) → x *ℤ (a +ℤ b) ≡ x *ℤ a +ℤ x *ℤ b
sum-times x a b = *ℤ_comm x (a +ℤ b) ∙ times-sum a b x ∙ (λ i. *ℤ_comm a x i +ℤ *ℤ_comm b x i)

pub add-multiple : (A C k a c x : ℤ) → (A +ℤ k *ℤ C) +ℤ (a +ℤ k *ℤ c) *ℤ x ≡ (A +ℤ a *ℤ x) +ℤ k *ℤ (C +ℤ c *ℤ x)
add-multiple A C k a c x =
    omega (arith, ints, times-sum a (k *ℤ c) x, assoc k c x, sum-times k C (c *ℤ x))

pub times-le : (k : ℕ) (a b : ℤ) → a ≤ℤ b → (pos k *ℤ a) ≤ℤ (pos k *ℤ b)
times-le zero a b h = omega (arith, ints, product_is (pos 0) a, product_is (pos 0) b)
times-le (suc k) a b h =
    let ih = times-le k a b h in
    omega (arith, ints, product_is (pos (suc k)) a, product_is (pos (suc k)) b, product_is (pos k) a, product_is (pos k) b)

pub quotient-is : (a : ℤ) (d : ℕ) → 0 < d → pos d *ℤ int_div_euclid a (pos d) +ℤ int_rem_euclid a (pos d) ≡ a
quotient-is (pos a) d h = omega (arith, ints, product_is (pos d) (pos (a / d)))
quotient-is (negsuc a) d h = omega (arith, ints, product_is (pos d) (negsuc (a / d)))

pub remainder-small : (a : ℤ) (d : ℕ) → 0 < d → int_rem_euclid a (pos d) <ℤ pos d
remainder-small (pos a) d h = omega (arith, ints)
remainder-small (negsuc a) d h = omega (arith, ints)

-- what is at most a number in whole multiples is at most its quotient
pub quotient-above : (q b : ℤ) (d : ℕ) → 0 < d → (pos d *ℤ q) ≤ℤ b → q ≤ℤ int_div_euclid b (pos d)
quotient-above q b d h le =
    by_lt_z (int_div_euclid b (pos d)) q
    (λ above.
    let next : (int_div_euclid b (pos d) +ℤ pos 1) ≤ℤ q = omega (arith, ints) in
    let far = times-le d _ _ next in
    let split = sum-times (pos d) (int_div_euclid b (pos d)) (pos 1) in
    let one = product_is (pos d) (pos 1) in
    absurd (omega (arith, ints, quotient-is b d h, remainder-small b d h, one)))
    (λ below. below)
