-- What a certificate makes of rows, over whole numbers without bounds, and the first thing that is wrong with it.
use Rattle.std.specs.Prelude.{◌≡◌, ℕ, zero, suc, ◌^◌, ◌-◌, ℤ, pos, negsuc, ◌+ℤ◌, ◌*ℤ◌, ◌≤ℤ◌, int_lt, int_le, Bool, true, false, not, ◌&&◌, if◌then◌else◌, List, [], ◌∷◌, length, slice_index_or, Option, Some, None, slice_get, Result, Ok, Err, IfSome, is_some}
use Rattle.std.specs.Int.{int_div_euclid, int_rem_euclid}
use Rattle.std.specs.Ordering.{int_eq}
use Rattle.std.specs.List.{All}
use Rattle.std.specs.Option.{option_and_then}
use Rattle.dl_term.specs.Meaning.{every_below}
use Rattle.dl_linear.specs.declared.line.Line.{Line}
use Rattle.dl_linear.specs.declared.line.Lines.{Lines}
use Rattle.dl_linear.specs.declared.certificate.Certificate.{Certificate}
use Rattle.dl_linear.specs.declared.certificate.Certificate.TheBlock.{Use, Sum', Div', more_of-Certificate as one, end_of-Certificate as end, Row_of-Multiple as Parts, more_of-Multiple as more, end_of-Multiple as none}
use Rattle.dl_linear.specs.declared.certificate.CertFault.{CertFault}
use Rattle.dl_linear.specs.declared.certificate.CertFault.TheVariants.{NoLine, NegativeMultiplier, NotDivisible, TooWide, NotContradiction}

-- A sum of coefficients times numbers that is at most a bound, or equal to it.
pub record Row : Type 0 where
  pub coef : ℕ → ℤ
  pub bound : ℤ
  pub equal : Bool

-- the row that a line of the code stands for; a coefficient that is missing is 0
abbrev pub row_of : Line → Row
row_of line = record { coef = λ j. slice_index_or line.coefs j (pos 0); bound = line.bound; equal = line.equal }

-- the sum of the first n coefficients times numbers
abbrev pub dot : ℕ → (ℕ → ℤ) → (ℕ → ℤ) → ℤ
dot zero coef x = pos 0
dot (suc n) coef x = dot n coef x +ℤ coef n *ℤ x n

-- the numbers for the n atoms meet the row
pub record Meets (n : ℕ) (x : ℕ → ℤ) (row : Row) : Type 0 where
  pub at_most : dot n row.coef x ≤ℤ row.bound
  pub equals : row.equal ≡ true → dot n row.coef x ≡ row.bound

-- the numbers meet each row that has a line
abbrev pub MeetsRows : ℕ → (ℕ → ℤ) → List (Option Line) → Type 0
MeetsRows n x rows = All (λ row. IfSome row (λ line. Meets n x (row_of line))) rows

-- no whole numbers for the atoms meet all lines
abbrev pub HaveNoSolution : Lines → Type 0
HaveNoSolution lines = (x : ℕ → ℤ) → MeetsRows (length lines.atoms) x lines.rows → ⊥

-- a number of 64 bits
abbrev pub fits : ℤ → Bool
fits z = int_le (negsuc (2 ^ 63 - 1)) z && int_le z (pos (2 ^ 63 - 1))

abbrev pub row_fits : ℕ → Row → Bool
row_fits n row = every_below n (λ j. fits (row.coef j)) && fits row.bound

-- 0 = 0
abbrev pub no_sum : Row
no_sum = record { coef = λ j. pos 0; bound = pos 0; equal = true }

-- the row with a multiple of another, which is an equality where both are
abbrev pub plus : Row → ℤ × Row → Row
plus row part = record {
  coef = λ j. row.coef j +ℤ part.0 *ℤ part.1.coef j;
  bound = row.bound +ℤ part.0 *ℤ part.1.bound;
  equal = row.equal && part.1.equal;
}

-- the row with all parts, from left to right
abbrev pub sum_onto : Row → List (ℤ × Row) → Row
sum_onto row [] = row
sum_onto row (part ∷ parts) = sum_onto (plus row part) parts

-- the inequality that is left of a row after a division, with its bound rounded down
abbrev pub quotient : ℤ → Row → Row
quotient d row = record {
  coef = λ j. int_div_euclid (row.coef j) d;
  bound = int_div_euclid row.bound d;
  equal = false;
}

abbrev pub row_at : List (Option Line) → ℕ → Option Row
row_at rows k = option_and_then (λ row. option_and_then (λ line. Some (row_of line)) row) (slice_get rows k)

abbrev pub found_row : Option Row → Row
found_row (Some row) = row
found_row None = no_sum

abbrev mutual
  -- the row that a certificate makes, where nothing is wrong with it
  pub made : List (Option Line) → Certificate → Row
  made rows (Use k) = found_row (row_at rows k)
  made rows (Sum' _ parts) = sum_onto no_sum (made_of rows parts)
  made rows (Div' d _ (one c end)) = quotient d (made rows c)

  -- the factors and rows of the parts of a sum
  pub made_of : {k : _} → List (Option Line) → Parts k → List (ℤ × Row)
  made_of rows none = []
  made_of rows (more factor c rest) = (factor, made rows c) ∷ made_of rows rest

-- what comes first
abbrev pub first_of : Option CertFault → Option CertFault → Option CertFault
first_of (Some fault) later = Some fault
first_of None later = later

-- an inequality is multiplied by a number below 0
abbrev pub is_negative : ℤ × Row → Bool
is_negative part = int_lt part.0 (pos 0) && not part.1.equal

-- What is first wrong with adding the parts to a row, from left to right.
abbrev pub sum_fault : ℕ → Row → List (ℤ × Row) → Option CertFault
sum_fault n row [] = None
sum_fault n row (part ∷ parts) =
    if is_negative part then Some NegativeMultiplier
    else if row_fits n (plus row part) then sum_fault n (plus row part) parts
    else Some TooWide

abbrev pub divides : ℕ → ℤ → Row → Bool
divides n d row = int_le (pos 1) d && every_below n (λ j. int_eq (int_rem_euclid (row.coef j) d) (pos 0))

-- the fault, unless the test passes
abbrev pub unless : Bool → CertFault → Option CertFault
unless test fault = if test then None else Some fault

abbrev mutual
  -- What is wrong with the first bad part of a certificate over n atoms: parts come before the whole, from left to right.
  pub fault : ℕ → List (Option Line) → Certificate → Option CertFault
  fault n rows (Use k) = unless (is_some (row_at rows k)) NoLine
  fault n rows (Sum' _ parts) = first_of (fault_in n rows parts) (sum_fault n no_sum (made_of rows parts))
  fault n rows (Div' d _ (one c end)) = first_of (fault n rows c) (unless (divides n d (made rows c)) NotDivisible)

  pub fault_in : {k : _} → ℕ → List (Option Line) → Parts k → Option CertFault
  fault_in n rows none = None
  fault_in n rows (more factor c rest) = first_of (fault n rows c) (fault_in n rows rest)

-- the row, read as an inequality, says that 0 is below 0
abbrev pub is_contradiction : ℕ → Row → Bool
is_contradiction n row = every_below n (λ j. int_eq (row.coef j) (pos 0)) && int_lt row.bound (pos 0)

-- what is first wrong with a certificate that is to end in a contradiction
abbrev pub verdict : ℕ → List (Option Line) → Certificate → Option CertFault
verdict n rows cert = first_of (fault n rows cert) (unless (is_contradiction n (made rows cert)) NotContradiction)

abbrev pub answer : Option CertFault → Result (Unit {0}) CertFault
answer None = Ok tt
answer (Some fault) = Err fault
