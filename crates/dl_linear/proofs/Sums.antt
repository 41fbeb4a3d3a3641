-- A sum of rows looked at column by column, and step by step.
use Rattle.std.proofs.Common.{◌≡◌, ℕ, zero, suc, ◌+◌, ◌<◌, ◌≤◌, ℤ, pos, ◌+ℤ◌, ◌*ℤ◌, Bool, true, false, ◌&&◌, if◌then◌else◌, List, [], ◌∷◌, length, take, drop, Option, Some, None, IfSome, slice_get, is_some, refl, sym, ◌∙◌, ap, subst, add-one, arith}
use Rattle.dl_term.proofs.Quantifiers.{every_below-at, every_below-all, both-true}
use Rattle.dl_linear.specs.declared.column.Column.{Column}
use Rattle.dl_linear.specs.declared.column.Column.TheVariants.{Atom, Bound}
use Rattle.dl_linear.specs.declared.certificate.CertFault.TheVariants.{NegativeMultiplier, TooWide}
use Rattle.dl_linear.specs.Rows.{Row, no_sum, plus, sum_onto, sum_fault, is_negative, row_fits, fits}
use Rattle.dl_linear.specs.Columns.{narrow, in_column, IsColumn, column_sum, columns_fit, none_negative}
use Rattle.dl_linear.proofs.Truth.{and-both, of-not}

-- the sum has numbers of 64 bits alone after each addition
abbrev pub steps_fit : ℕ → Row → List (ℤ × Row) → Bool
steps_fit n row [] = true
steps_fit n row (part ∷ parts) = row_fits n (plus row part) && steps_fit n (plus row part) parts

in_column-plus : (column : Column) (row : Row) (part : ℤ × Row) → in_column column (plus row part) ≡ in_column column row +ℤ part.0 *ℤ in_column column part.1
in_column-plus (Atom j) row part = refl
in_column-plus Bound row part = refl

column-fits : (n : ℕ) (row : Row) (column : Column) → IsColumn n column → row_fits n row ≡ true → fits (in_column column row) ≡ true
column-fits n row (Atom j) lt h = every_below-at n (λ j. fits (row.coef j)) (both-true _ _ h).0 j lt
column-fits n row Bound lt h = (both-true _ _ h).1

-- where each step fits each column does
pub column-narrow : (n : ℕ) (column : Column) (row : Row) (parts : List (ℤ × Row)) → IsColumn n column → steps_fit n row parts ≡ true → column_sum column (in_column column row) parts ≡ Some (in_column column (sum_onto row parts))
column-narrow n column row [] lt h = refl
column-narrow n column row (part ∷ parts) lt h =
    let each = both-true _ _ h in
    (λ i. if fits (sym (in_column-plus column row part) i) then column_sum column (sym (in_column-plus column row part) i) parts else None)
    ∙ ap (λ test. if test then column_sum column (in_column column (plus row part)) parts else None) (column-fits n (plus row part) column lt each.0)
    ∙ column-narrow n column (plus row part) parts lt each.1

some-parts : {X : Type 0} (test : Bool) (o : Option X) → is_some (if test then o else None) ≡ true → (test ≡ true) × (is_some o ≡ true)
some-parts true o h = (refl, h)
some-parts false o h = cc

-- where each column fits each step does
columns-narrow : (n : ℕ) (row : Row) (parts : List (ℤ × Row)) → ((column : Column) → IsColumn n column → is_some (column_sum column (in_column column row) parts) ≡ true) → steps_fit n row parts ≡ true
columns-narrow n row [] h = refl
columns-narrow n row (part ∷ parts) h =
    let rest = columns-narrow n (plus row part) parts
    (λ column lt. subst (λ z. is_some (column_sum column z parts) ≡ true) (sym (in_column-plus column row part)) (some-parts _ _ (h column lt)).1) in
    let coefs = every_below-all n (λ j. fits ((plus row part).coef j)) (λ j lt. (some-parts _ _ (h (Atom j) lt)).0) in
    let bound = (some-parts _ _ (h Bound tt)).0 in
    and-both _ _ (and-both _ _ coefs bound) rest

column-of : (n : ℕ) (parts : List (ℤ × Row)) → columns_fit n parts ≡ true → (column : Column) → IsColumn n column → is_some (column_sum column (in_column column no_sum) parts) ≡ true
column-of n parts h (Atom j) lt = every_below-at n (λ j. is_some (column_sum (Atom j) (pos 0) parts)) (both-true _ _ h).0 j lt
column-of n parts h Bound lt = (both-true _ _ h).1

same-tests : (a b : Bool) → (a ≡ true → b ≡ true) → (b ≡ true → a ≡ true) → a ≡ b
same-tests true b f g = sym (f refl)
same-tests false true f g = g refl
same-tests false false f g = refl

pub columns_fit-is : (n : ℕ) (parts : List (ℤ × Row)) → columns_fit n parts ≡ steps_fit n no_sum parts
columns_fit-is n parts =
    same-tests _ _
    (λ h. columns-narrow n no_sum parts (column-of n parts h))
    (λ h. and-both _ _
    (every_below-all n (λ j. is_some (column_sum (Atom j) (pos 0) parts)) (λ j lt. ap is_some (column-narrow n (Atom j) no_sum parts lt h)))
    (ap is_some (column-narrow n Bound no_sum parts tt h)))

-- What is wrong with a sum, where no multiplier is negative up to some part.
pub sum_fault-split : (n : ℕ) (row : Row) (parts : List (ℤ × Row)) (k : ℕ) → none_negative (take k parts) ≡ true → sum_fault n row parts ≡ (if steps_fit n row (take k parts) then sum_fault n (sum_onto row (take k parts)) (drop k parts) else Some TooWide)
sum_fault-split n row [] zero h = refl
sum_fault-split n row [] (suc k) h = refl
sum_fault-split n row (part ∷ parts) zero h = refl
sum_fault-split n row (part ∷ parts) (suc k) h =
    let each = both-true _ _ h in
    ap (λ test. if test then Some NegativeMultiplier else if row_fits n (plus row part) then sum_fault n (plus row part) parts else Some TooWide) (of-not _ each.0)
    ∙ by_test (row_fits n (plus row part)) (sum_fault-split n (plus row part) parts k each.1)
  where
    by_test : (test : Bool) → sum_fault n (plus row part) parts ≡ (if steps_fit n (plus row part) (take k parts) then sum_fault n (sum_onto (plus row part) (take k parts)) (drop k parts) else Some TooWide)
        → (if test then sum_fault n (plus row part) parts else Some TooWide) ≡ (if test && steps_fit n (plus row part) (take k parts) then sum_fault n (sum_onto (plus row part) (take k parts)) (drop k parts) else Some TooWide)
    by_test true e = e
    by_test false e = refl

-- a sum that nothing is wrong with fits in each step
pub fault-fits : (n : ℕ) (row : Row) (parts : List (ℤ × Row)) → sum_fault n row parts ≡ None → steps_fit n row parts ≡ true
fault-fits n row [] h = refl
fault-fits n row (part ∷ parts) h = by_tests (is_negative part) (row_fits n (plus row part)) (fault-fits n (plus row part) parts) h
  where
    by_tests : (sign fit : Bool) → (sum_fault n (plus row part) parts ≡ None → steps_fit n (plus row part) parts ≡ true)
        → (if sign then Some NegativeMultiplier else if fit then sum_fault n (plus row part) parts else Some TooWide) ≡ None
        → (fit && steps_fit n (plus row part) parts) ≡ true
    by_tests true fit ih h = cc
    by_tests false true ih h = ih h
    by_tests false false ih h = cc

-- one part more in a column
pub column-more : (column : Column) (sum : ℤ) (parts : List (ℤ × Row)) (k : ℕ) (part : ℤ × Row) (total : ℤ) → column_sum column sum (take k parts) ≡ Some total → slice_get parts k ≡ Some part → column_sum column sum (take (k + 1) parts) ≡ narrow (total +ℤ part.0 *ℤ in_column column part.1)
column-more column sum parts k part total h e = rw add-one (go sum parts k h e)
  where
    go : (sum : ℤ) (parts : List (ℤ × Row)) (k : ℕ) → column_sum column sum (take k parts) ≡ Some total → slice_get parts k ≡ Some part → column_sum column sum (take (suc k) parts) ≡ narrow (total +ℤ part.0 *ℤ in_column column part.1)
    go sum [] k h e = cc
    go sum (x ∷ xs) zero h e =
        let first : x ≡ part = cc in
        let start : sum ≡ total = cc in
        λ i. narrow (start i +ℤ (first i).0 *ℤ in_column column (first i).1)
    go sum (x ∷ xs) (suc k) h e = by_test (fits (sum +ℤ x.0 *ℤ in_column column x.1)) (λ r. go (sum +ℤ x.0 *ℤ in_column column x.1) xs k r e) h
      where
        by_test : (test : Bool)
            → (column_sum column (sum +ℤ x.0 *ℤ in_column column x.1) (take k xs) ≡ Some total → column_sum column (sum +ℤ x.0 *ℤ in_column column x.1) (take (suc k) xs) ≡ narrow (total +ℤ part.0 *ℤ in_column column part.1))
            → (if test then column_sum column (sum +ℤ x.0 *ℤ in_column column x.1) (take k xs) else None) ≡ Some total
            → (if test then column_sum column (sum +ℤ x.0 *ℤ in_column column x.1) (take (suc k) xs) else None) ≡ narrow (total +ℤ part.0 *ℤ in_column column part.1)
        by_test true ih h = ih h
        by_test false ih h = cc

-- a column that leaves 64 bits at some part has no sum
pub column-stops : (column : Column) (sum : ℤ) (parts : List (ℤ × Row)) (k : ℕ) → column_sum column sum (take k parts) ≡ None → column_sum column sum parts ≡ None
column-stops column sum [] zero h = cc
column-stops column sum [] (suc k) h = h
column-stops column sum (x ∷ xs) zero h = cc
column-stops column sum (x ∷ xs) (suc k) h = by_test (fits (sum +ℤ x.0 *ℤ in_column column x.1)) (λ r. column-stops column (sum +ℤ x.0 *ℤ in_column column x.1) xs k r) h
  where
    by_test : (test : Bool)
        → (column_sum column (sum +ℤ x.0 *ℤ in_column column x.1) (take k xs) ≡ None → column_sum column (sum +ℤ x.0 *ℤ in_column column x.1) xs ≡ None)
        → (if test then column_sum column (sum +ℤ x.0 *ℤ in_column column x.1) (take k xs) else None) ≡ None
        → (if test then column_sum column (sum +ℤ x.0 *ℤ in_column column x.1) xs else None) ≡ None
    by_test true ih h = ih h
    by_test false ih h = refl

-- a sum goes on with a part whose multiplier is negative
pub negative-there : (n : ℕ) (row : Row) (parts : List (ℤ × Row)) (k : ℕ) → k < length parts → IfSome (slice_get parts k) (λ part. is_negative part ≡ true) → sum_fault n row (drop k parts) ≡ Some NegativeMultiplier
negative-there n row [] k lt h = absurd (omega arith)
negative-there n row (part ∷ parts) zero lt h = ap (λ test. if test then Some NegativeMultiplier else if row_fits n (plus row part) then sum_fault n (plus row part) parts else Some TooWide) h
negative-there n row (part ∷ parts) (suc k) lt h = negative-there n row parts k (omega arith) h

pub nothing-left : (n : ℕ) (row : Row) (parts : List (ℤ × Row)) (k : ℕ) → length parts ≤ k → sum_fault n row (drop k parts) ≡ None
nothing-left n row [] zero le = refl
nothing-left n row [] (suc k) le = refl
nothing-left n row (part ∷ parts) zero le = absurd (omega arith)
nothing-left n row (part ∷ parts) (suc k) le = nothing-left n row parts k (omega arith)

pub in_none : (column : Column) → in_column column no_sum ≡ pos 0
in_none (Atom j) = refl
in_none Bound = refl
