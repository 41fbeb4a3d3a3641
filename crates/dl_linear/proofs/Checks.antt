-- The steps of the verifier's code against the definitions.
use Rattle.std.proofs.Common.{◌≡◌, ℕ, suc, ◌+◌, ◌<◌, ◌≤◌, ℤ, pos, ◌+ℤ◌, ◌*ℤ◌, Bool, true, if◌then◌else◌, List, [], ◌∷◌, length, take, drop, Option, Some, None, IfSome, slice_get, FitsSigned, to_z, of_z, w64, refl, sym, ◌∙◌, ap, subst}
use Rattle.std.proofs.lemmas.Int.{to_z-of_z}
use Rattle.std.proofs.lemmas.List.{take-map}
use Rattle.dl_linear.specs.declared.line.Line.{Line}
use Rattle.dl_linear.specs.declared.column.Column.{Column}
use Rattle.dl_linear.specs.declared.certificate.CertFault.TheVariants.{NegativeMultiplier, TooWide}
use Rattle.dl_linear.specs.declared.certificate.Multiple.{Multiple}
use Rattle.dl_linear.specs.declared.certificate.Certificate.{Sum}
use Rattle.dl_linear.specs.Rows.{Row, no_sum, sum_onto, made, sum_fault, fault, is_negative}
use Rattle.dl_linear.specs.Columns.{narrow, all_made, in_column, IsColumn, column_sum, columns_fit, none_negative}
use Rattle.dl_linear.proofs.Parts.{made-sum, fault-parts}
use Rattle.dl_linear.proofs.Walks.{map-at}
use Rattle.dl_linear.proofs.Sums.{steps_fit, column-narrow, columns_fit-is, sum_fault-split, fault-fits, column-more, column-stops, negative-there, nothing-left, in_none}

made-take : (rows : List (Option Line)) (ms : List Multiple) (k : ℕ) → take k (all_made rows ms) ≡ all_made rows (take k ms)
made-take rows ms k = take-map (λ m. (m.factor, made rows m.certificate)) k ms

made-at : (rows : List (Option Line)) (ms : List Multiple) (k : ℕ) (m : Multiple) → slice_get ms k ≡ Some m → slice_get (all_made rows ms) k ≡ Some (m.factor, made rows m.certificate)
made-at rows ms k m h = map-at (λ m. (m.factor, made rows m.certificate)) ms k m h

made-length : (rows : List (Option Line)) (ms : List Multiple) → length (all_made rows ms) ≡ length ms
made-length rows [] = refl
made-length rows (x ∷ xs) = ap suc (made-length rows xs)

-- a column of a sum that nothing is wrong with
pub sum-column : (n : ℕ) (rows : List (Option Line)) (ms : List Multiple) (column : Column) → fault n rows (Sum ms) ≡ None → IsColumn n column → column_sum column (pos 0) (all_made rows ms) ≡ Some (in_column column (made rows (Sum ms)))
sum-column n rows ms column h lt =
    let parts = fault-parts n rows ms h in
    ap (λ z. column_sum column z (all_made rows ms)) (sym (in_none column))
    ∙ column-narrow n column no_sum (all_made rows ms) lt (fault-fits n no_sum (all_made rows ms) parts.1)
    ∙ ap (λ row. Some (in_column column row)) (sym (made-sum rows ms))

-- a column with one part more, as 64 bits show it
pub next-column : (rows : List (Option Line)) (ms : List Multiple) (k : ℕ) (m : Multiple) (column : Column) (bits : ℕ) (next : ℤ) (result : Option ℤ)
    → column_sum column (pos 0) (all_made rows (take k ms)) ≡ Some (to_z w64 bits) → slice_get ms k ≡ Some m
    → FitsSigned w64 m.factor → FitsSigned w64 next → next ≡ in_column column (made rows m.certificate)
    → result ≡ narrow (to_z w64 bits +ℤ to_z w64 (of_z w64 m.factor) *ℤ to_z w64 (of_z w64 next))
    → column_sum column (pos 0) (take (k + 1) (all_made rows ms)) ≡ result
next-column rows ms k m column bits next result inv at f g is_next is =
    column-more column (pos 0) (all_made rows ms) k (m.factor, made rows m.certificate) (to_z w64 bits)
    (ap (column_sum column (pos 0)) (made-take rows ms k) ∙ inv) (made-at rows ms k m at)
    ∙ sym (is
    ∙ (λ i. narrow (to_z w64 bits +ℤ to_z-of_z w64 m.factor f i *ℤ to_z-of_z w64 next g i))
    ∙ (λ i. narrow (to_z w64 bits +ℤ m.factor *ℤ is_next i)))

pub next-invariant : (rows : List (Option Line)) (ms : List Multiple) (k : ℕ) (column : Column) (total : ℤ) → FitsSigned w64 total → column_sum column (pos 0) (take (k + 1) (all_made rows ms)) ≡ Some total → column_sum column (pos 0) (all_made rows (take (k + 1) ms)) ≡ Some (to_z w64 (of_z w64 total))
next-invariant rows ms k column total f h =
    ap (column_sum column (pos 0)) (sym (made-take rows ms (k + 1))) ∙ h ∙ ap Some (sym (to_z-of_z w64 total f))

pub no-column : (rows : List (Option Line)) (ms : List Multiple) (k : ℕ) (column : Column) → column_sum column (pos 0) (take (k + 1) (all_made rows ms)) ≡ None → column_sum column (pos 0) (all_made rows ms) ≡ None
no-column rows ms k column h = column-stops column (pos 0) (all_made rows ms) (k + 1) h

-- what is wrong with a sum, by a look at its columns up to the first negative multiplier
pub sum-checked : (n : ℕ) (rows : List (Option Line)) (ms : List Multiple) (k : ℕ) (fit : Bool) → none_negative (all_made rows (take k ms)) ≡ true → fit ≡ columns_fit n (all_made rows (take k ms))
    → sum_fault n no_sum (all_made rows ms) ≡ (if fit then sum_fault n (sum_onto no_sum (take k (all_made rows ms))) (drop k (all_made rows ms)) else Some TooWide)
sum-checked n rows ms k fit before is =
    sum_fault-split n no_sum (all_made rows ms) k (ap none_negative (made-take rows ms k) ∙ before)
    ∙ ap (λ test. if test then sum_fault n (sum_onto no_sum (take k (all_made rows ms))) (drop k (all_made rows ms)) else Some TooWide)
    (ap (steps_fit n no_sum) (made-take rows ms k) ∙ sym (columns_fit-is n (all_made rows (take k ms))) ∙ sym is)

pub sum-negative : (n : ℕ) (row : Row) (rows : List (Option Line)) (ms : List Multiple) (k : ℕ) → k < length ms → IfSome (slice_get (all_made rows ms) k) (λ part. is_negative part ≡ true) → sum_fault n row (drop k (all_made rows ms)) ≡ Some NegativeMultiplier
sum-negative n row rows ms k lt h = negative-there n row (all_made rows ms) k (subst (λ m. k < m) (sym (made-length rows ms)) lt) h

pub sum-done : (n : ℕ) (row : Row) (rows : List (Option Line)) (ms : List Multiple) (k : ℕ) → length ms ≤ k → sum_fault n row (drop k (all_made rows ms)) ≡ None
sum-done n row rows ms k le = nothing-left n row (all_made rows ms) k (subst (λ m. m ≤ k) (sym (made-length rows ms)) le)
