-- What is at hand holds where the facts hold.
use Rattle.std.proofs.Common.{◌≡◌, ℤ, int_lt, int_le, Bool, true, false, not, ◌&&◌, ◌||◌, List, [], ◌∷◌, Option, Some, None, unwrap_or, refl, sym, ◌∙◌, ap, ◌⊎◌, inl, inr}
use Rattle.std.specs.Ordering.{int_eq}
use Rattle.std.specs.Option.{option_map}
use Rattle.std.specs.List.{AllByRecursion as Each, list_any}
use Rattle.dl_term.specs.declared.syntax.Term.{Term, Num, Word}
use Rattle.dl_term.specs.declared.syntax.Formula.{Formula, True, False, Eq, Lt, Le, Not', And', Or', Implies', All', Exists', Each' as Every', Any', more_of-Formula as one, end_of-Formula as end}
use Rattle.dl_term.specs.State.{State}
use Rattle.dl_term.specs.Names.{Names}
use Rattle.dl_term.specs.Meaning.{value, holds}
use Rattle.dl_term.specs.Same.{same_formula}
use Rattle.dl_term.proofs.SameLemmas.{formula-is}
use Rattle.dl_linear.specs.Forms.{constant}
use Rattle.dl_model.specs.declared.sequent.Hypothesis.{Hypothesis}
use Rattle.dl_sequent.specs.Plain.{tested, compared, told, is_told_true, is_told_false, is_part, is_at_hand, fact_formulas}

pub among_facts : (f : Formula) (facts : List Hypothesis) → list_any (is_part f) (fact_formulas facts) ≡ list_any (λ (h : Hypothesis). is_part f h.formula) facts
among_facts f [] = refl
among_facts f (h ∷ hs) = ap (λ b. is_part f h.formula || b) (among_facts f hs)

pub and-left : (a b : Bool) → (a && b) ≡ true → a ≡ true
and-left true b h = refl
and-left false b h = cc

pub and-right : (a b : Bool) → (a && b) ≡ true → b ≡ true
and-right true b h = h
and-right false b h = cc

pub either : (a b : Bool) → (a || b) ≡ true → (a ≡ true) ⊎ (b ≡ true)
either true b h = inl refl
either false b h = inr h

-- ---- comparisons of constants

constant-value : (t : Term) (v : ℤ) (names : Names) (state : State) → constant t ≡ Some v → value t names state ≡ v
constant-value (Num w) v names state h = cc
constant-value (Word sym w) v names state h = cc
constant-value _ v names state h = cc

tested-says : (test : ℤ → ℤ → Bool) (s t : Term) (b : Bool) (names : Names) (state : State) → tested test (constant s) (constant t) ≡ Some b → test (value s names state) (value t names state) ≡ b
tested-says test s t b names state h = by_parts (constant s) (constant t) refl refl h
  where
    by_parts : (o p : Option ℤ) → constant s ≡ o → constant t ≡ p → tested test o p ≡ Some b → test (value s names state) (value t names state) ≡ b
    by_parts (Some v) (Some w) e f g =
        let is : test v w ≡ b = cc in
        (λ i. test (constant-value s v names state e i) (constant-value t w names state f i)) ∙ is
    by_parts (Some v) None e f g = cc
    by_parts None p e f g = cc

compared-says : (f : Formula) (b : Bool) (names : Names) (state : State) → compared f ≡ Some b → holds f names state ≡ b
compared-says (Eq s t) b names state h = tested-says int_eq s t b names state h
compared-says (Lt s t) b names state h = tested-says int_lt s t b names state h
compared-says (Le s t) b names state h = tested-says int_le s t b names state h
compared-says _ b names state h = cc

negated : (o : Option Bool) (b : Bool) → option_map not o ≡ Some b → (c : Bool) × (o ≡ Some c) × (not c ≡ b)
negated (Some c) b h = let is : not c ≡ b = cc in (c, refl, is)
negated None b h = cc

told-says : (f : Formula) (b : Bool) (names : Names) (state : State) → told f ≡ Some b → holds f names state ≡ b
told-says (Not' s (one f end)) b names state h =
    let inner = negated (compared f) b h in
    ap not (compared-says f inner.0 names state inner.1) ∙ inner.2
told-says (Eq s t) b names state h = compared-says (Eq s t) b names state h
told-says (Lt s t) b names state h = compared-says (Lt s t) b names state h
told-says (Le s t) b names state h = compared-says (Le s t) b names state h
told-says _ b names state h = cc

pub told-true : (f : Formula) (names : Names) (state : State) → is_told_true f ≡ true → holds f names state ≡ true
told-true f names state h = by_truth (told f) refl h
  where
    by_truth : (o : Option Bool) → told f ≡ o → unwrap_or o false ≡ true → holds f names state ≡ true
    by_truth (Some true) e g = told-says f true names state e
    by_truth (Some false) e g = cc
    by_truth None e g = cc

pub told-false : (f : Formula) (names : Names) (state : State) → is_told_false f ≡ true → holds f names state ≡ false
told-false f names state h = by_truth (told f) refl h
  where
    by_truth : (o : Option Bool) → told f ≡ o → not (unwrap_or o true) ≡ true → holds f names state ≡ false
    by_truth (Some true) e g = cc
    by_truth (Some false) e g = told-says f false names state e
    by_truth None e g = cc

-- ---- parts of conjunctions

same-holds : (f g : Formula) (names : Names) (state : State) → same_formula f g ≡ true → holds g names state ≡ true → holds f names state ≡ true
same-holds f g names state h true_there = ap (λ (k : Formula). holds k names state) (formula-is f g h) ∙ true_there

pub part-holds : (f whole : Formula) (names : Names) (state : State) → is_part f whole ≡ true → holds whole names state ≡ true → holds f names state ≡ true
part-holds f (And' s (one g end) t (one h end)) names state part whole_true = elim (either (same_formula f (And' s (one g end) t (one h end))) (is_part f g || is_part f h) part) [
  | inl same ↦ same-holds f (And' s (one g end) t (one h end)) names state same whole_true
  | inr inner ↦ elim (either (is_part f g) (is_part f h) inner) [
    | inl left ↦ part-holds f g names state left (and-left (holds g names state) (holds h names state) whole_true)
    | inr right ↦ part-holds f h names state right (and-right (holds g names state) (holds h names state) whole_true)
  ]
]
part-holds f True names state part whole_true = same-holds f True names state part whole_true
part-holds f False names state part whole_true = same-holds f False names state part whole_true
part-holds f (Eq a b) names state part whole_true = same-holds f (Eq a b) names state part whole_true
part-holds f (Lt a b) names state part whole_true = same-holds f (Lt a b) names state part whole_true
part-holds f (Le a b) names state part whole_true = same-holds f (Le a b) names state part whole_true
part-holds f (Not' s (one g end)) names state part whole_true = same-holds f (Not' s (one g end)) names state part whole_true
part-holds f (Or' s (one g end) t (one h end)) names state part whole_true = same-holds f (Or' s (one g end) t (one h end)) names state part whole_true
part-holds f (Implies' s (one g end) t (one h end)) names state part whole_true = same-holds f (Implies' s (one g end) t (one h end)) names state part whole_true
part-holds f (All' x s (one g end)) names state part whole_true = same-holds f (All' x s (one g end)) names state part whole_true
part-holds f (Exists' x s (one g end)) names state part whole_true = same-holds f (Exists' x s (one g end)) names state part whole_true
part-holds f (Every' m l u s (one g end)) names state part whole_true = same-holds f (Every' m l u s (one g end)) names state part whole_true
part-holds f (Any' m l u s (one g end)) names state part whole_true = same-holds f (Any' m l u s (one g end)) names state part whole_true

known-holds : (f : Formula) (facts : List Formula) (names : Names) (state : State) → list_any (is_part f) facts ≡ true → Each (λ (g : Formula). holds g names state ≡ true) facts → holds f names state ≡ true
known-holds f [] names state h each = cc
known-holds f (g ∷ gs) names state h each = elim (either (is_part f g) (list_any (is_part f) gs) h) [
  | inl here ↦ part-holds f g names state here each.0
  | inr later ↦ known-holds f gs names state later each.1
]

pub at-hand-holds : (f : Formula) (facts : List Formula) (names : Names) (state : State) → is_at_hand facts f ≡ true → Each (λ (g : Formula). holds g names state ≡ true) facts → holds f names state ≡ true
at-hand-holds f facts names state h each = elim (either (list_any (is_part f) facts) (is_told_true f) h) [
  | inl known ↦ known-holds f facts names state known each
  | inr says ↦ told-true f names state says
]
