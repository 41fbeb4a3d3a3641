-- The linear form of a term, the line of a formula, and the lines of formulas over their atoms.
use Rattle.std.specs.Prelude.{◌≡◌, ℕ, zero, suc, ℤ, pos, ◌+ℤ◌, ◌-ℤ◌, ◌*ℤ◌, ◌≤ℤ◌, Bool, true, false, ◌&&◌, ◌||◌, if◌then◌else◌, List, [], ◌∷◌, ◌++◌, length, map, Option, Some, None, IfSome, is_some, ◌↔◌}
use Rattle.std.specs.List.{All, list_all}
use Rattle.dl_term.specs.declared.syntax.Term.{Term, Num, Word, Var, Field', Row', Len, Msg, Add', Sub', Mul', If', more_of-Term as one, end_of-Term as end}
use Rattle.dl_term.specs.declared.syntax.Formula.{Formula, Eq, Lt, Le, Not', more_of-Formula as one_formula, end_of-Formula as end_formula}
use Rattle.dl_term.specs.Same.{same_term}
use Rattle.dl_term.specs.State.{State}
use Rattle.dl_term.specs.Names.{Names}
use Rattle.dl_term.specs.Meaning.{value, holds}
use Rattle.dl_linear.specs.declared.line.Line.{Line}
use Rattle.dl_linear.specs.declared.line.Lines.{Lines}
use Rattle.dl_linear.specs.Rows.{fits, MeetsRows}

-- a number, or a name that stands for one
abbrev pub constant : Term → Option ℤ
constant (Num v) = Some v
constant (Word sym v) = Some v
constant _ = None

-- what a product is read as: a constant times what the other factor is read as, or, without a constant, an atom
abbrev pub product : {X : Type 0} → (ℤ → X → X) → Option ℤ → Option ℤ → X → X → X → X
product times (Some c) other left right atom = times c right
product times None (Some c) left right atom = times c left
product times None None left right atom = atom

-- A linear form has a coefficient for each atom and a constant. A column of it is an atom, or None for the constant.
abbrev pub constant_in : Option Term → ℤ → ℤ
constant_in None v = v
constant_in (Some x) v = pos 0

abbrev pub atom_in : Option Term → Term → ℤ
atom_in None t = pos 0
atom_in (Some x) t = if same_term t x then pos 1 else pos 0

-- What a term's linear form has in a column. Atoms are the largest parts that are no sums, differences, constants or
-- products with a constant.
abbrev pub form : Option Term → Term → ℤ
form column (Num v) = constant_in column v
form column (Word sym v) = constant_in column v
form column (Add' _ (one a end) _ (one b end)) = form column a +ℤ form column b
form column (Sub' _ (one a end) _ (one b end)) = form column a -ℤ form column b
form column (Mul' s (one a end) t (one b end)) =
    product (λ c k. c *ℤ k) (constant a) (constant b) (form column a) (form column b) (atom_in column (Mul' s (one a end) t (one b end)))
form column (Var sym) = atom_in column (Var sym)
form column (Field' label field s (one node end)) = atom_in column (Field' label field s (one node end))
form column (Row' label field s (one node end) t (one index end)) = atom_in column (Row' label field s (one node end) t (one index end))
form column (Len label) = atom_in column (Len label)
form column (Msg msg part) = atom_in column (Msg msg part)
form column (If' s (one a end) t (one b end) u (one y end) v (one z end)) =
    atom_in column (If' s (one a end) t (one b end) u (one y end) v (one z end))

-- in this column the linear form of the term, and of each part that it is made of, has a number of 64 bits
abbrev pub form_fits : Option Term → Term → Bool
form_fits column (Add' s (one a end) t (one b end)) =
    (form_fits column a && form_fits column b) && fits (form column (Add' s (one a end) t (one b end)))
form_fits column (Sub' s (one a end) t (one b end)) =
    (form_fits column a && form_fits column b) && fits (form column (Sub' s (one a end) t (one b end)))
form_fits column (Mul' s (one a end) t (one b end)) =
    product (λ c part. part && fits (form column (Mul' s (one a end) t (one b end)))) (constant a) (constant b) (form_fits column a) (form_fits column b) true
form_fits column _ = true

abbrev pub is_among : Term → List Term → Bool
is_among t [] = false
is_among t (x ∷ xs) = same_term t x || is_among t xs

abbrev pub with_atom : Term → List Term → List Term
with_atom t atoms = if is_among t atoms then atoms else atoms ++ t ∷ []

-- the atoms, and after them those of a term that are new, from left to right
abbrev pub with_atoms : Term → List Term → List Term
with_atoms (Num v) atoms = atoms
with_atoms (Word sym v) atoms = atoms
with_atoms (Add' _ (one a end) _ (one b end)) atoms = with_atoms b (with_atoms a atoms)
with_atoms (Sub' _ (one a end) _ (one b end)) atoms = with_atoms b (with_atoms a atoms)
with_atoms (Mul' s (one a end) t (one b end)) atoms =
    product (λ c part. part) (constant a) (constant b) (with_atoms a atoms) (with_atoms b atoms) (with_atom (Mul' s (one a end) t (one b end)) atoms)
with_atoms (Var sym) atoms = with_atom (Var sym) atoms
with_atoms (Field' label field s (one node end)) atoms = with_atom (Field' label field s (one node end)) atoms
with_atoms (Row' label field s (one node end) t (one index end)) atoms = with_atom (Row' label field s (one node end) t (one index end)) atoms
with_atoms (Len label) atoms = with_atom (Len label) atoms
with_atoms (Msg msg part) atoms = with_atom (Msg msg part) atoms
with_atoms (If' s (one a end) t (one b end) u (one y end) v (one z end)) atoms =
    with_atom (If' s (one a end) t (one b end) u (one y end) v (one z end)) atoms

-- What a formula says of two terms: the left one and the gap are at most the right one, or equal to it.
pub record Sides : Type 0 where
  pub left : Term
  pub right : Term
  pub gap : ℤ
  pub equal : Bool

abbrev pub equal_to : Term → Term → Sides
equal_to a b = record { left = a; right = b; gap = pos 0; equal = true }

abbrev pub at_most : Term → Term → Sides
at_most a b = record { left = a; right = b; gap = pos 0; equal = false }

abbrev pub below : Term → Term → Sides
below a b = record { left = a; right = b; gap = pos 1; equal = false }

abbrev pub negated_sides : Formula → Option Sides
negated_sides (Lt a b) = Some (at_most b a)
negated_sides (Le a b) = Some (below b a)
negated_sides _ = None

abbrev pub sides_of : Formula → Option Sides
sides_of (Eq a b) = Some (equal_to a b)
sides_of (Lt a b) = Some (below a b)
sides_of (Le a b) = Some (at_most a b)
sides_of (Not' _ (one_formula f end_formula)) = negated_sides f
sides_of _ = None

-- the coefficient of an atom, and the bound, where all atoms are brought to the left and all constants to the right
abbrev pub coefficient : Sides → Term → ℤ
coefficient sides x = form (Some x) sides.left -ℤ form (Some x) sides.right

abbrev pub bound : Sides → ℤ
bound sides = form None sides.right -ℤ form None sides.left -ℤ sides.gap

abbrev pub line_of : List Term → Sides → Line
line_of atoms sides = record { coefs = map (coefficient sides) atoms; bound = bound sides; equal = sides.equal }

abbrev pub coefficient_fits : Sides → Term → Bool
coefficient_fits sides x =
    (form_fits (Some x) sides.left && form_fits (Some x) sides.right) && fits (coefficient sides x)

abbrev pub bound_fits : Sides → Bool
bound_fits sides = (form_fits None sides.left && form_fits None sides.right) && fits (bound sides)

-- the line, and the linear forms that it is made of, have numbers of 64 bits alone
abbrev pub line_fits : List Term → Sides → Bool
line_fits atoms sides = list_all (coefficient_fits sides) atoms && bound_fits sides

abbrev pub row_for : List Term → Option Sides → Option Line
row_for atoms (Some sides) = Some (line_of atoms sides)
row_for atoms None = None

abbrev pub row_fits : List Term → Option Sides → Bool
row_fits atoms (Some sides) = line_fits atoms sides
row_fits atoms None = true

-- a row for each of the sides
abbrev pub rows_for : List Term → List (Option Sides) → List (Option Line)
rows_for atoms all = map (row_for atoms) all

abbrev pub rows_fit : List Term → List (Option Sides) → Bool
rows_fit atoms all = list_all (row_fits atoms) all

abbrev pub atoms_with : Option Sides → List Term → List Term
atoms_with (Some sides) atoms = with_atoms sides.right (with_atoms sides.left atoms)
atoms_with None atoms = atoms

-- the atoms, and after them those of all sides, each once
abbrev pub atoms_from : List Term → List (Option Sides) → List Term
atoms_from atoms [] = atoms
atoms_from atoms (o ∷ os) = atoms_from (atoms_with o atoms) os

-- a row for each of the sides, over the atoms of all
abbrev pub lines_from : List (Option Sides) → Lines
lines_from all = record { atoms = atoms_from [] all; rows = rows_for (atoms_from [] all) all }

-- each coefficient and bound on the way to the lines is a number of 64 bits
abbrev pub are_narrow : List (Option Sides) → Bool
are_narrow all = rows_fit (atoms_from [] all) all

-- the sides of each formula
abbrev pub all_sides : List Formula → List (Option Sides)
all_sides formulas = map sides_of formulas

-- what the sides say of the values of their terms
pub record SidesHold (names : Names) (state : State) (sides : Sides) : Type 0 where
  pub at_most : (value sides.left names state +ℤ sides.gap) ≤ℤ value sides.right names state
  pub equals : sides.equal ≡ true → value sides.left names state +ℤ sides.gap ≡ value sides.right names state

abbrev pub AllHold : Names → State → List (Option Sides) → Type 0
AllHold names state all = All (λ o. IfSome o (SidesHold names state)) all

-- the value of each atom, by its place
abbrev pub value_at : List Term → Names → State → ℕ → ℤ
value_at [] names state j = pos 0
value_at (x ∷ xs) names state zero = value x names state
value_at (x ∷ xs) names state (suc j) = value_at xs names state j

-- the values of the atoms meet the lines
abbrev pub AreMet : Names → State → Lines → Type 0
AreMet names state lines = MeetsRows (length lines.atoms) (value_at lines.atoms names state) lines.rows

-- the values of the atoms meet the lines exactly where the sides hold
abbrev pub SayTheSides : Lines → List (Option Sides) → Type 0
SayTheSides lines all = (names : Names) (state : State) → AllHold names state all ↔ AreMet names state lines

-- the formula holds, if it has a line
abbrev pub HoldsWithLine : Names → State → Formula → Type 0
HoldsWithLine names state f = is_some (sides_of f) ≡ true → holds f names state ≡ true

-- the values of the atoms meet the lines exactly where the formulas that have a line hold
abbrev pub SayTheFormulas : Lines → List Formula → Type 0
SayTheFormulas lines formulas = (names : Names) (state : State) → All (HoldsWithLine names state) formulas ↔ AreMet names state lines
