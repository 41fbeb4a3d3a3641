use Rattle.std.proofs.Common.{◌≡◌, ◌≤◌, ◌*◌, ℕ, ℤ, unsigned_abs, arith, rules, to_z, of_z, FitsSigned}
use Rattle.std.proofs.Math.Nat.{mul-le-mul}
use Rattle.std.proofs.lemmas.Int.{to_z-of_z}
use mir.Syntax.{w128}
use Rattle.dl_term.specs.Syntax.{opened}
use Rattle.dl_term.proofs.evaluate.+value.Goals as goal

-- the product of two numbers within bounds is within the bounds' product, if that fits
within_product : (x y z : ℤ) (m n : ℕ) → FitsSigned w128 x → FitsSigned w128 y → FitsSigned w128 z → unsigned_abs z ≡ unsigned_abs (to_z w128 (of_z w128 x)) * unsigned_abs (to_z w128 (of_z w128 y)) → unsigned_abs x ≤ m → unsigned_abs y ≤ n → unsigned_abs (to_z w128 (of_z w128 z)) ≤ m * n
within_product x y z m n fx fy fz e p q =
    let le : unsigned_abs x * unsigned_abs y ≤ m * n = mul-le-mul p q in
    let size : unsigned_abs z ≡ unsigned_abs x * unsigned_abs y = simp to_z-of_z at e in
    rw (to_z-of_z w128 z fz) (omega (arith, size))

pub returns-in-Mul-clause-within : goal.returns-in-Mul-clause-within
unfolding opened
returns-in-Mul-clause-within g t c =
    let fx : FitsSigned w128 c.value-in-Mul.result = search rules in
    let fy : FitsSigned w128 c.value-in-Mul-2.result = search rules in
    let fz : FitsSigned w128 c.multiply.result = search rules in
    let p = rw c.get-in-Mul.ensures at c.value-in-Mul.ensures.within in
    let q = rw c.get-in-Mul-2.ensures at c.value-in-Mul-2.ensures.within in
    rw c.in-Mul.is (within_product _ _ _ _ _ fx fy fz c.multiply.ensures.size p q)
