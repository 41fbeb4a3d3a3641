-- What a certificate of a script refutes: the lines of the hypotheses that it uses, and that of the goal's negation.
use Rattle.std.specs.Prelude.{ℕ, ◌+◌, Bool, false, ◌&&◌, ◌||◌, ◌==◌, if◌then◌else◌, List, [], ◌∷◌, ◌++◌, map, length, Option, Some, None, is_none, unwrap_or}
use Rattle.std.specs.List.{position}
use Rattle.dl_term.specs.declared.syntax.Formula.{Formula, Eq, Lt, Le, Not', more_of-Formula as one, end_of-Formula as end}
use Rattle.dl_model.specs.declared.sequent.Hypothesis.{Hypothesis}
use Rattle.dl_linear.specs.declared.certificate.Multiple.{Multiple}
use Rattle.dl_linear.specs.declared.certificate.Certificate.{Certificate, Sum, Div}
use Rattle.dl_linear.specs.declared.certificate.Certificate.TheBlock.{Use, Sum', Div', more_of-Certificate as one_cert, end_of-Certificate as end_cert, Row_of-Multiple as Multiples, more_of-Multiple as more, end_of-Multiple as none}
use Rattle.dl_linear.specs.declared.line.Lines.{Lines}
use Rattle.dl_linear.specs.Rows.{verdict}
use Rattle.dl_linear.specs.Forms.{Sides, at_most, below, sides_of, lines_from, are_narrow}

-- the number of the word `goal`
abbrev pub goal_word : ℕ
goal_word = 8

abbrev mutual
  -- the certificate has a `Use` of the name
  pub uses : ℕ → Certificate → Bool
  uses name (Use k) = k == name
  uses name (Sum' _ parts) = uses_in name parts
  uses name (Div' d _ (one_cert c end_cert)) = uses name c

  pub uses_in : {n : _} → ℕ → Multiples n → Bool
  uses_in name none = false
  uses_in name (more factor c rest) = uses name c || uses_in name rest

-- the row of a name: the hypotheses stand first, and then the goal, and past these is nothing
abbrev pub row_number : List Hypothesis → ℕ → ℕ
row_number facts name =
    if name == goal_word then length facts else unwrap_or (position (λ (h : Hypothesis). h.name == name) facts) (length facts + 1)

abbrev mutual
  -- the certificate with the numbers of rows for the names
  pub numbered : List Hypothesis → Certificate → Certificate
  numbered facts (Use k) = Use (row_number facts k)
  numbered facts (Sum' _ parts) = Sum (numbered_in facts parts)
  numbered facts (Div' d _ (one_cert c end_cert)) = Div d (numbered facts c)

  pub numbered_in : {n : _} → List Hypothesis → Multiples n → List Multiple
  numbered_in facts none = []
  numbered_in facts (more factor c rest) = record { factor = factor; certificate = numbered facts c } ∷ numbered_in facts rest

-- a part of a sum with the numbers of rows for the names
abbrev pub renumbered : List Hypothesis → Multiple → Multiple
renumbered facts part = record { factor = part.factor; certificate = numbered facts part.certificate }

-- what is not used has no line, and isn't looked at
abbrev pub if_used : Certificate → ℕ → Option Sides → Option Sides
if_used cert name sides = if uses name cert then sides else None

-- the sides of each hypothesis, and last those that are given for the goal
abbrev pub rows_used : Certificate → List Hypothesis → Option Sides → List (Option Sides)
rows_used cert facts goal = map (λ (h : Hypothesis). if_used cert h.name (sides_of h.formula)) facts ++ if_used cert goal_word goal ∷ []

-- the certificate leads from the hypotheses and the sides for the goal to a contradiction
abbrev pub refutes : List Hypothesis → Option Sides → Certificate → Bool
refutes facts goal cert =
    are_narrow (rows_used cert facts goal)
    && is_none (verdict (length (lines_from (rows_used cert facts goal)).atoms) (lines_from (rows_used cert facts goal)).rows (numbered facts cert))

-- the lines of the sides, where no number in them is too wide
abbrev pub lines_if_narrow : List (Option Sides) → Option Lines
lines_if_narrow all = if are_narrow all then Some (lines_from all) else None

-- what the negation of a goal says of two terms
abbrev pub denied_sides : Formula → Option Sides
denied_sides (Lt a b) = Some (at_most b a)
denied_sides (Le a b) = Some (below b a)
denied_sides (Not' _ (one f end)) = sides_of f
denied_sides _ = None

-- A goal that is an equation takes two certificates, one for each way in which it may fail, and any other goal takes one.
abbrev pub linear_closes : List Hypothesis → Formula → Certificate → Option Certificate → Bool
linear_closes facts (Eq a b) first (Some second) = refutes facts (Some (below a b)) first && refutes facts (Some (below b a)) second
linear_closes facts (Eq a b) first None = false
linear_closes facts goal first None = refutes facts (denied_sides goal) first
linear_closes facts goal first (Some second) = false
