-- What is left by a step of a rule, in the end.
use Rattle.std.proofs.Common.{◌≡◌, ℕ, Bool, true, false, if◌then◌else◌, List, [], ◌∷◌, Option, Some, None, Result, Ok, Err, IfOk, OnOk, refl, sym, ◌∙◌, ap}
use Rattle.dl_term.specs.declared.syntax.Formula.{Formula, True}
use Rattle.dl_model.specs.declared.sequent.Sequent.{Sequent}
use Rattle.dl_sequent.specs.Clean.{is_clean}
use Rattle.dl_kernel.specs.declared.parts.Two.{Two}
use Rattle.dl_kernel.specs.Parts.{as_and, as_or, as_implication}
use Rattle.dl_kernel.specs.Steps.{with_fact, with_goal, split_goal, pick_goal, intro_goal, parts_of_fact, cases_of_fact, apply_fact, only_clean}
use Rattle.dl_kernel.specs.Seen.{if_clean, one_if, two_if}
use Rattle.dl_kernel.proofs.CleanLemmas.{one-clean, one-unclean, two-clean, two-unclean, two-either, unclean-added}

-- a rule that leaves one sequent
pub one-made : (s u : Sequent) (fine : Bool) (o : Option (List Sequent)) → o ≡ Some (s ∷ []) → u ≡ s → fine ≡ is_clean u → one_if fine u ≡ only_clean o
one-made s u fine o e g h = one-clean u fine h ∙ ap (λ t. only_clean (Some (t ∷ []))) g ∙ ap only_clean (sym e)

pub one-refused : (s t : Sequent) (o : Option (List Sequent)) → o ≡ Some (s ∷ []) → is_clean s ≡ false → one_if false t ≡ only_clean o
one-refused s t o e h = one-unclean s t h ∙ ap only_clean (sym e)

pub one-none : (t : Sequent) (o : Option (List Sequent)) → o ≡ None → one_if false t ≡ only_clean o
one-none t o e = ap only_clean (sym e)

-- a rule that leaves two
pub two-made : (s t u : Sequent) (one : Option Sequent) (o : Option (List Sequent)) → o ≡ Some (s ∷ t ∷ []) → one ≡ if_clean s → u ≡ t → is_clean t ≡ true → two_if one u ≡ only_clean o
two-made s t u one o e f g h = ap (two_if one) g ∙ two-clean s t one f h ∙ ap only_clean (sym e)

pub two-refused : (s t u : Sequent) (o : Option (List Sequent)) → o ≡ Some (s ∷ t ∷ []) → is_clean t ≡ false → two_if None u ≡ only_clean o
two-refused s t u o e h = two-unclean s t u h ∙ ap only_clean (sym e)

pub two-none : (u : Sequent) (o : Option (List Sequent)) → o ≡ None → two_if None u ≡ only_clean o
two-none u o e = ap only_clean (sym e)

-- ---- what a call leaves is handed on

pub same-left : {A E : Type 0} (r : Result A E) (left : A → Option (List Sequent)) (x y : Option (List Sequent)) → x ≡ y → IfOk r (λ a. left a ≡ x) → IfOk r (λ a. left a ≡ y)
same-left (Ok a) left x y e h = h ∙ e
same-left (Err b) left x y e h = tt

-- the goal was taken, and `true` stands in its place for a while
pub split-taken : (s t : Sequent) (goal : Formula) (two : Two) → t ≡ with_goal s True → goal ≡ s.goal → Some two ≡ as_and goal → only_clean (split_goal t (Some two)) ≡ only_clean (split_goal s (as_and s.goal))
split-taken s t goal two e f g = ap (λ u. only_clean (split_goal u (Some two))) e ∙ ap (λ p. only_clean (split_goal s p)) (g ∙ ap as_and f)

pub pick-taken : (s t : Sequent) (part : ℕ) (goal : Formula) (two : Two) → t ≡ with_goal s True → goal ≡ s.goal → Some two ≡ as_or goal → only_clean (pick_goal t part (Some two)) ≡ only_clean (pick_goal s part (as_or s.goal))
pick-taken s t part goal two e f g = ap (λ u. only_clean (pick_goal u part (Some two))) e ∙ ap (λ p. only_clean (pick_goal s part p)) (g ∙ ap as_or f)

pub intro-taken : (s t : Sequent) (name : ℕ) (goal : Formula) (two : Two) → t ≡ with_goal s True → goal ≡ s.goal → Some two ≡ as_implication goal → only_clean (intro_goal t name (Some two)) ≡ only_clean (intro_goal s name (as_implication s.goal))
intro-taken s t name goal two e f g = ap (λ u. only_clean (intro_goal u name (Some two))) e ∙ ap (λ p. only_clean (intro_goal s name p)) (g ∙ ap as_implication f)

-- the goal is not of the kind
pub split-none : (s u : Sequent) (goal : Formula) → goal ≡ s.goal → None ≡ as_and goal → two_if None u ≡ only_clean (split_goal s (as_and s.goal))
split-none s u goal f g = ap (λ p. only_clean (split_goal s p)) (g ∙ ap as_and f)

pub pick-none : (s u : Sequent) (part : ℕ) (goal : Formula) → goal ≡ s.goal → None ≡ as_or goal → one_if false u ≡ only_clean (pick_goal s part (as_or s.goal))
pick-none s u part goal f g = ap (λ p. only_clean (pick_goal s part p)) (g ∙ ap as_or f)

pub intro-none : (s u : Sequent) (name : ℕ) (goal : Formula) → goal ≡ s.goal → None ≡ as_implication goal → one_if false u ≡ only_clean (intro_goal s name (as_implication s.goal))
intro-none s u name goal f g = ap (λ p. only_clean (intro_goal s name p)) (g ∙ ap as_implication f)

-- the second one of two is the sequent in the end, and may be unclean
pub two-last : (s t u : Sequent) (one : Option Sequent) (fine : Bool) → one ≡ if_clean s → u ≡ t → fine ≡ is_clean u → two_if (if fine then one else None) u ≡ only_clean (Some (s ∷ t ∷ []))
two-last s t u one fine e f g =
    ap (λ b. two_if (if b then one else None) u) (g ∙ ap is_clean f)
    ∙ ap (two_if (if is_clean t then one else None)) f
    ∙ two-either s t one e

-- a hypothesis was added last
pub added : {E : Type 0} (r : Result Bool E) (u v w : Sequent) → v ≡ w → OnOk r (u ≡ v) → IfOk r (λ fine. fine ≡ is_clean u) → IfOk r (λ fine. one_if fine u ≡ only_clean (Some (w ∷ [])))
added (Ok fine) u v w e new clean = one-clean u fine clean ∙ ap (λ t. only_clean (Some (t ∷ []))) (new ∙ e)
added (Err x) u v w e new clean = tt

-- the same, with another sequent beside it
pub beside : {E : Type 0} (r : Result (Option Sequent) E) (s t u v : Sequent) (one : Option Sequent) → t ≡ v → OnOk r (u ≡ t) → IfOk r (λ b. b ≡ (if is_clean t then one else None)) → one ≡ if_clean s → IfOk r (λ o. two_if o u ≡ only_clean (Some (s ∷ v ∷ [])))
beside (Ok b) s t u v one e new is first =
    ap (λ o. two_if o u) is ∙ ap (two_if (if is_clean t then one else None)) new ∙ two-either s t one first ∙ ap (λ w. only_clean (Some (s ∷ w ∷ []))) e
beside (Err x) s t u v one e new is first = tt

-- another goal was put
pub goal-made : (s u : Sequent) (f g : Formula) (fine : Bool) → f ≡ g → u ≡ with_goal s f → fine ≡ is_clean u → one_if fine u ≡ only_clean (Some (with_goal s g ∷ []))
goal-made s u f g fine e new h = one-clean u fine h ∙ ap (λ t. only_clean (Some (t ∷ []))) (new ∙ ap (with_goal s) e)
