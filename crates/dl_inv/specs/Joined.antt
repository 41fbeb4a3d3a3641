-- Formulas joined into one that says all of them.
use Rattle.std.specs.Prelude.{Bool, true, false, not, List, [], ◌∷◌, filter}
use Rattle.dl_term.specs.declared.syntax.Formula.{Formula, True, And}

abbrev pub is_true : Formula → Bool
is_true True = true
is_true _ = false

abbrev pub nested : List Formula → Formula
nested [] = True
nested (f ∷ []) = f
nested (f ∷ g ∷ fs) = And f (nested (g ∷ fs))

-- All of the formulas: `true` is dropped, and the others nest to the right.
abbrev pub all_of : List Formula → Formula
all_of fs = nested (filter (λ f. not (is_true f)) fs)
