-- The words of private contracts: a line's column by itself, and numbers that may leave 64 bits.
use Rattle.std.specs.Prelude.{◌<◌, ℕ, ℤ, pos, ◌+ℤ◌, ◌*ℤ◌, Bool, if◌then◌else◌, ◌&&◌, List, [], ◌∷◌, map, Option, Some, None, is_some, not}
use Rattle.dl_term.specs.declared.syntax.Term.{Term}
use Rattle.dl_linear.specs.declared.line.Line.{Line}
use Rattle.dl_linear.specs.declared.column.Column.{Column}
use Rattle.dl_linear.specs.declared.column.Column.TheVariants.{Atom, Bound}
use Rattle.dl_linear.specs.declared.certificate.Multiple.{Multiple}
use Rattle.dl_linear.specs.declared.certificate.CertFault.{CertFault}
use Rattle.dl_linear.specs.Rows.{Row, made, first_of, fault, fits, is_negative}
use Rattle.std.specs.List.{list_all}
use Rattle.dl_term.specs.Meaning.{every_below}
use Rattle.dl_linear.specs.Forms.{form, form_fits}

-- the number, where it is one of 64 bits
abbrev pub narrow : ℤ → Option ℤ
narrow z = if fits z then Some z else None

abbrev pub both_narrow : (ℤ → ℤ → ℤ) → Option ℤ → Option ℤ → Option ℤ
both_narrow op (Some a) (Some b) = narrow (op a b)
both_narrow op (Some a) None = None
both_narrow op None b = None

-- what a term's linear form has in a column, where that and what its parts have are numbers of 64 bits
abbrev pub narrow_form : Option Term → Term → Option ℤ
narrow_form column t = if form_fits column t then Some (form column t) else None

-- the parts of a sum as the code has them
abbrev pub all_made : List (Option Line) → List Multiple → List (ℤ × Row)
all_made rows parts = map (λ part. (part.factor, made rows part.certificate)) parts

abbrev pub fault_of : ℕ → List (Option Line) → List Multiple → Option CertFault
fault_of n rows [] = None
fault_of n rows (part ∷ parts) = first_of (fault n rows part.certificate) (fault_of n rows parts)

-- what stands in a column of a row
abbrev pub in_column : Column → Row → ℤ
in_column (Atom j) row = row.coef j
in_column Bound row = row.bound

abbrev pub IsColumn : ℕ → Column → Type 0
IsColumn n (Atom j) = j < n
IsColumn n Bound = Unit {0}

-- what a sum has in a column, where no addition leaves 64 bits
abbrev pub column_sum : Column → ℤ → List (ℤ × Row) → Option ℤ
column_sum column sum [] = Some sum
column_sum column sum (part ∷ parts) =
    if fits (sum +ℤ part.0 *ℤ in_column column part.1) then column_sum column (sum +ℤ part.0 *ℤ in_column column part.1) parts
    else None

-- the sum has a number of 64 bits in each column, after each addition
abbrev pub columns_fit : ℕ → List (ℤ × Row) → Bool
columns_fit n parts = every_below n (λ j. is_some (column_sum (Atom j) (pos 0) parts)) && is_some (column_sum Bound (pos 0) parts)

abbrev pub none_negative : List (ℤ × Row) → Bool
none_negative parts = list_all (λ part. not (is_negative part)) parts
