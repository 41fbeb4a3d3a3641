-- Which names the formulas of an obligation bind: those of the formulas that they are made from.
use Rattle.std.proofs.Common.{◌≡◌, ℕ, Bool, true, false, not, ◌||◌, ◌==◌, if◌then◌else◌, List, [], ◌∷◌, ◌++◌, filter, refl, ◌∙◌, ap, sym}
use mathlib.Core.Path.{ap₂}
use Rattle.std.specs.List.{AllByRecursion as Each, flat_map}
use Rattle.dl_term.specs.declared.syntax.Lab.{Lab}
use Rattle.dl_term.specs.declared.syntax.Term.{Term}
use Rattle.dl_term.specs.declared.syntax.Formula.{Formula, True, False, Eq, Lt, Le, Not', And', Or', Implies', All', Exists', Each', Any', more_of-Formula as one_formula, end_of-Formula as end_formula}
use Rattle.dl_term.specs.Syntax.{opened}
use Rattle.dl_model.specs.declared.sequent.Hypothesis.{Hypothesis}
use Rattle.dl_model.specs.declared.sequent.Sequent.{Sequent}
use Rattle.dl_model.specs.Sorts.{has}
use Rattle.dl_model.specs.Spoken.{bound_names}
use Rattle.dl_model.proofs.Small.{lacks-front, lacks-back}
use Rattle.dl_subst.specs.Change.{Change, changed}
use Rattle.dl_subst.specs.Substitution.{for_message}
use Rattle.dl_wp.specs.Steps.{Move, Sends, Receives, Step, label_seen, names_in_step}
use Rattle.dl_wp.specs.Before.{is_over, bound_over, each_before, any_before, before}
use Rattle.dl_inv.specs.Joined.{is_true, nested, all_of}
use Rattle.dl_inv.specs.Steps.{put_in_step, in_step}
use Rattle.dl_inv.specs.Taken.{bound_in}
use Rattle.dl_inv.proofs.Lists.{has-append, lacks-each, true-false, not-true}

-- ---- a changed formula

bound-if : (b : Bool) (f g : Formula) → bound_names g ≡ bound_names f → bound_names (if b then f else g) ≡ bound_names f
bound-if true f g h = refl
bound-if false f g h = h

pub bound-changed : (c : Change) (f : Formula) → bound_names (changed c f) ≡ bound_names f
unfolding opened
bound-changed c True = refl
bound-changed c False = refl
bound-changed c (Eq a b) = refl
bound-changed c (Lt a b) = refl
bound-changed c (Le a b) = refl
bound-changed c (Not' _ (one_formula f end_formula)) = bound-changed c f
bound-changed c (And' _ (one_formula f end_formula) _ (one_formula g end_formula)) = ap₂ ◌++◌ (bound-changed c f) (bound-changed c g)
bound-changed c (Or' _ (one_formula f end_formula) _ (one_formula g end_formula)) = ap₂ ◌++◌ (bound-changed c f) (bound-changed c g)
bound-changed c (Implies' _ (one_formula f end_formula) _ (one_formula g end_formula)) = ap₂ ◌++◌ (bound-changed c f) (bound-changed c g)
bound-changed c (All' x _ (one_formula f end_formula)) = ap (λ xs. x ∷ xs) (bound-if (c.stops_at_variable x) f (changed c f) (bound-changed c f))
bound-changed c (Exists' x _ (one_formula f end_formula)) = ap (λ xs. x ∷ xs) (bound-if (c.stops_at_variable x) f (changed c f) (bound-changed c f))
bound-changed c (Each' m label tag _ (one_formula f end_formula)) = ap (λ xs. m ∷ xs) (bound-if (c.stops_at_message m) f (changed c f) (bound-changed c f))
bound-changed c (Any' m label tag _ (one_formula f end_formula)) = ap (λ xs. m ∷ xs) (bound-if (c.stops_at_message m) f (changed c f) (bound-changed c f))

-- a guard or hook in a step binds what it binds
pub bound-in-step : (label : Lab) (node : Term) (word : ℕ) (other : Term) (names : List ℕ) (args : List Term) (f : Formula) → bound_names (in_step label node word other names args f) ≡ bound_names f
bound-in-step label node word other names args f =
    bound-changed (record { put = put_in_step word names (names_in_step node word other names args); label = label_seen label; stops_at_variable = λ x. false; stops_at_message = λ m. false }) f

-- ---- a formula before a step

again : (a b : Bool) → ((a || b) || b) ≡ (a || b)
again true b = refl
again false true = refl
again false false = refl

has-joined : (xs ys zs ws : List ℕ) (y : ℕ) → has xs y ≡ has zs y → has ys y ≡ has ws y → has (xs ++ ys) y ≡ has (zs ++ ws) y
has-joined xs ys zs ws y h k = has-append xs ys y ∙ ap₂ ◌||◌ h k ∙ sym (has-append zs ws y)

each-bound : (move : Move) (is : Bool) (m : ℕ) (label : Lab) (tag : ℕ) (f : Formula) (y : ℕ) → has (bound_names (each_before move is m label tag f)) y ≡ has (m ∷ bound_names f) y
unfolding opened
each-bound (Sends new) true m label tag f y =
    has-append (m ∷ bound_names f) (bound_names (changed (for_message m new) f)) y
    ∙ ap (λ xs. has (m ∷ bound_names f) y || has xs y) (bound-changed (for_message m new) f)
    ∙ again (y == m) (has (bound_names f) y)
each-bound (Sends new) false m label tag f y = refl
each-bound (Receives k) is m label tag f y = refl

any-bound : (move : Move) (is : Bool) (m : ℕ) (label : Lab) (tag : ℕ) (f : Formula) (y : ℕ) → has (bound_names (any_before move is m label tag f)) y ≡ has (m ∷ bound_names f) y
unfolding opened
any-bound (Sends new) true m label tag f y =
    has-append (m ∷ bound_names f) (bound_names (changed (for_message m new) f)) y
    ∙ ap (λ xs. has (m ∷ bound_names f) y || has xs y) (bound-changed (for_message m new) f)
    ∙ again (y == m) (has (bound_names f) y)
any-bound (Sends new) false m label tag f y = refl
any-bound (Receives k) is m label tag f y = refl

pub bound-before : (step : Step) (over : ℕ → Bool) (f : Formula) (y : ℕ) → has (bound_names (before step over f)) y ≡ has (bound_names f) y
unfolding opened
bound-before step over True y = refl
bound-before step over False y = refl
bound-before step over (Eq a b) y = refl
bound-before step over (Lt a b) y = refl
bound-before step over (Le a b) y = refl
bound-before step over (Not' _ (one_formula f end_formula)) y = bound-before step over f y
bound-before step over (And' _ (one_formula f end_formula) _ (one_formula g end_formula)) y =
    has-joined (bound_names (before step over f)) (bound_names (before step over g)) (bound_names f) (bound_names g) y (bound-before step over f y) (bound-before step over g y)
bound-before step over (Or' _ (one_formula f end_formula) _ (one_formula g end_formula)) y =
    has-joined (bound_names (before step over f)) (bound_names (before step over g)) (bound_names f) (bound_names g) y (bound-before step over f y) (bound-before step over g y)
bound-before step over (Implies' _ (one_formula f end_formula) _ (one_formula g end_formula)) y =
    has-joined (bound_names (before step over f)) (bound_names (before step over g)) (bound_names f) (bound_names g) y (bound-before step over f y) (bound-before step over g y)
bound-before step over (All' x _ (one_formula f end_formula)) y = ap (λ b. (y == x) || b) (bound-before step over f y)
bound-before step over (Exists' x _ (one_formula f end_formula)) y = ap (λ b. (y == x) || b) (bound-before step over f y)
bound-before step over (Each' m label tag _ (one_formula f end_formula)) y =
    each-bound step.move (is_over step label tag) m label tag (before step (bound_over over m (is_over step label tag)) f) y
    ∙ ap (λ b. (y == m) || b) (bound-before step (bound_over over m (is_over step label tag)) f y)
bound-before step over (Any' m label tag _ (one_formula f end_formula)) y =
    any-bound step.move (is_over step label tag) m label tag (before step (bound_over over m (is_over step label tag)) f) y
    ∙ ap (λ b. (y == m) || b) (bound-before step (bound_over over m (is_over step label tag)) f y)

-- ---- joined formulas

abbrev Frees : ℕ → Formula → Type 0
Frees y f = has (bound_names f) y ≡ false

nested-lacks : (fs : List Formula) (y : ℕ) → Frees y (nested fs) → Each (Frees y) fs
unfolding opened
nested-lacks [] y h = tt
nested-lacks (f ∷ []) y h = (h, tt)
nested-lacks (f ∷ g ∷ fs) y h = (lacks-front (bound_names f) (bound_names (nested (g ∷ fs))) y h, nested-lacks (g ∷ fs) y (lacks-back (bound_names f) (bound_names (nested (g ∷ fs))) y h))

true-lacks : (f : Formula) (y : ℕ) → is_true f ≡ true → Frees y f
true-lacks True y h = refl
true-lacks _ y h = cc

kept-first : (f : Formula) (fs : List Formula) (y : ℕ) (b : Bool) → is_true f ≡ b → Each (Frees y) (if not b then f ∷ filter (λ f. not (is_true f)) fs else filter (λ f. not (is_true f)) fs)
    → (Each (Frees y) (filter (λ f. not (is_true f)) fs) → Each (Frees y) fs) → Each (Frees y) (f ∷ fs)
kept-first f fs y true e k rest = (true-lacks f y e, rest k)
kept-first f fs y false e k rest = (k.0, rest k.1)

kept-lacks : (fs : List Formula) (y : ℕ) → Each (Frees y) (filter (λ f. not (is_true f)) fs) → Each (Frees y) fs
kept-lacks [] y h = tt
kept-lacks (f ∷ fs) y h = kept-first f fs y (is_true f) refl h (kept-lacks fs y)

-- what a joined formula doesn't bind, none of the formulas binds
pub all-lack : (fs : List Formula) (y : ℕ) → has (bound_names (all_of fs)) y ≡ false → Each (λ f. has (bound_names f) y ≡ false) fs
all-lack fs y h = kept-lacks fs y (nested-lacks (filter (λ f. not (is_true f)) fs) y h)

-- ---- a sequent

-- no quantifier of the hypothesis binds the name
abbrev pub Lacks : ℕ → Hypothesis → Type 0
Lacks y h = has (bound_names h.formula) y ≡ false

pub facts-lack : (s : Sequent) (y : ℕ) → has (bound_in s) y ≡ false → Each (Lacks y) s.facts
facts-lack s y h = lacks-each (λ (h : Hypothesis). bound_names h.formula) s.facts y (lacks-front _ (bound_names s.goal) y h)

pub goal-lacks : (s : Sequent) (y : ℕ) → has (bound_in s) y ≡ false → has (bound_names s.goal) y ≡ false
goal-lacks s y h = lacks-back (flat_map (λ (h : Hypothesis). bound_names h.formula) s.facts) (bound_names s.goal) y h

-- what lacks each of the names has none of them
pub turned : (bound ns : List ℕ) → ((y : ℕ) → has ns y ≡ true → has bound y ≡ false) → (y : ℕ) → has bound y ≡ true → has ns y ≡ false
turned bound ns h y there = not-true (has ns y) (λ k. true-false (has bound y) there (h y k))
