-- Plain goals: those that follow from the hypotheses at a glance, and need no script.
use Rattle.std.specs.Prelude.{ℤ, Bool, true, false, not, ◌&&◌, ◌||◌, int_lt, int_le, List, ◌∷◌, map, Option, Some, None, unwrap_or}
use Rattle.std.specs.Ordering.{int_eq}
use Rattle.std.specs.Option.{option_map}
use Rattle.std.specs.List.{list_any}
use Rattle.dl_term.specs.declared.syntax.Formula.{Formula, True, False, Eq, Lt, Le, Not', And', Or', Implies', All', Exists', Each', Any', more_of-Formula as one, end_of-Formula as end}
use Rattle.dl_term.specs.Same.{same_term, same_formula}
use Rattle.dl_linear.specs.Forms.{constant}
use Rattle.dl_model.specs.declared.sequent.Hypothesis.{Hypothesis}
use Rattle.dl_model.specs.declared.sequent.Sequent.{Sequent}

-- ---- comparisons of constants

-- the test of two constants, which are numbers, nodes or enumerators, by their values
abbrev pub tested : (ℤ → ℤ → Bool) → Option ℤ → Option ℤ → Option Bool
tested test (Some v) (Some w) = Some (test v w)
tested test (Some v) None = None
tested test None b = None

-- the truth of a comparison of two constants
abbrev pub compared : Formula → Option Bool
compared (Eq a b) = tested int_eq (constant a) (constant b)
compared (Lt a b) = tested int_lt (constant a) (constant b)
compared (Le a b) = tested int_le (constant a) (constant b)
compared _ = None

-- the truth of a comparison of two constants, or of the negation of one
abbrev pub told : Formula → Option Bool
told (Not' _ (one f end)) = option_map not (compared f)
told f = compared f

abbrev pub is_told_true : Formula → Bool
is_told_true f = unwrap_or (told f) false

abbrev pub is_told_false : Formula → Bool
is_told_false f = not (unwrap_or (told f) true)

-- ---- hypotheses

-- the formula is the whole one, or a part of it where that is a conjunction
abbrev pub is_part : Formula → Formula → Bool
is_part f (And' s (one g end) t (one h end)) = same_formula f (And' s (one g end) t (one h end)) || (is_part f g || is_part f h)
is_part f whole = same_formula f whole

-- the formula is one of these facts, or a part of a conjunction that is one, or a comparison of constants that is true
abbrev pub is_at_hand : List Formula → Formula → Bool
is_at_hand facts f = list_any (is_part f) facts || is_told_true f

-- ---- plain

-- The goal is plain, where these are the facts.
abbrev pub is_plain : List Formula → Formula → Bool
is_plain facts True = true
is_plain facts False = is_at_hand facts False
is_plain facts (Eq a b) = is_at_hand facts (Eq a b) || same_term a b
is_plain facts (Lt a b) = is_at_hand facts (Lt a b)
is_plain facts (Le a b) = is_at_hand facts (Le a b)
is_plain facts (Not' s (one f end)) = is_at_hand facts (Not' s (one f end))
is_plain facts (And' s (one f end) t (one g end)) =
    is_at_hand facts (And' s (one f end) t (one g end)) || (is_plain facts f && is_plain facts g)
is_plain facts (Or' s (one f end) t (one g end)) =
    is_at_hand facts (Or' s (one f end) t (one g end)) || (is_plain facts f || is_plain facts g)
is_plain facts (Implies' s (one f end) t (one g end)) =
    is_at_hand facts (Implies' s (one f end) t (one g end)) || (is_told_false f || is_plain (f ∷ facts) g)
is_plain facts (All' sym s (one f end)) = is_at_hand facts (All' sym s (one f end)) || is_plain facts f
is_plain facts (Exists' sym s (one f end)) = is_at_hand facts (Exists' sym s (one f end))
is_plain facts (Each' msg label tag s (one f end)) = is_at_hand facts (Each' msg label tag s (one f end)) || is_plain facts f
is_plain facts (Any' msg label tag s (one f end)) = is_at_hand facts (Any' msg label tag s (one f end))

abbrev pub fact_formulas : List Hypothesis → List Formula
fact_formulas facts = map (λ (h : Hypothesis). h.formula) facts

-- the sequent's goal is plain
abbrev pub is_plain_sequent : Sequent → Bool
is_plain_sequent s = is_plain (fact_formulas s.facts) s.goal
