-- Formulas that are none of the kinds that an accessor takes.
use Rattle.std.proofs.Common.{◌≡◌, ℕ, Option, Some, None, refl}
use Rattle.dl_term.specs.Syntax.{opened}
use Rattle.dl_term.specs.declared.syntax.Lab.{Lab}
use Rattle.dl_term.specs.declared.syntax.Formula.{Formula, True, False, Eq, Lt, Le, Not, Not', And', Or', Implies, Implies', All, All', Exists, Exists', Each, Each', Any, Any', more_of-Formula as one, end_of-Formula as end}
use Rattle.dl_kernel.specs.Parts.{as_implication, as_universal, as_existential}

pub no-implication : (f : Formula) → ((g h : Formula) → f ≡ Implies g h → ⊥) → ((g : Formula) → f ≡ Not g → ⊥) → None ≡ as_implication f
unfolding opened
no-implication True implies nots = refl
no-implication False implies nots = refl
no-implication (Eq a b) implies nots = refl
no-implication (Lt a b) implies nots = refl
no-implication (Le a b) implies nots = refl
no-implication (Not' s (one f end)) implies nots = absurd (nots f refl)
no-implication (And' s (one f end) t (one g end)) implies nots = refl
no-implication (Or' s (one f end) t (one g end)) implies nots = refl
no-implication (Implies' s (one f end) t (one g end)) implies nots = absurd (implies f g refl)
no-implication (All' x s (one f end)) implies nots = refl
no-implication (Exists' x s (one f end)) implies nots = refl
no-implication (Each' m label tag s (one f end)) implies nots = refl
no-implication (Any' m label tag s (one f end)) implies nots = refl

pub no-universal : (f : Formula) → ((x : ℕ) (g : Formula) → f ≡ All x g → ⊥) → ((m : ℕ) (label : Lab) (tag : ℕ) (g : Formula) → f ≡ Each m label tag g → ⊥) → None ≡ as_universal f
unfolding opened
no-universal True all each = refl
no-universal False all each = refl
no-universal (Eq a b) all each = refl
no-universal (Lt a b) all each = refl
no-universal (Le a b) all each = refl
no-universal (Not' s (one f end)) all each = refl
no-universal (And' s (one f end) t (one g end)) all each = refl
no-universal (Or' s (one f end) t (one g end)) all each = refl
no-universal (Implies' s (one f end) t (one g end)) all each = refl
no-universal (All' x s (one f end)) all each = absurd (all x f refl)
no-universal (Exists' x s (one f end)) all each = refl
no-universal (Each' m label tag s (one f end)) all each = absurd (each m label tag f refl)
no-universal (Any' m label tag s (one f end)) all each = refl

pub no-existential : (f : Formula) → ((x : ℕ) (g : Formula) → f ≡ Exists x g → ⊥) → ((m : ℕ) (label : Lab) (tag : ℕ) (g : Formula) → f ≡ Any m label tag g → ⊥) → None ≡ as_existential f
unfolding opened
no-existential True some any = refl
no-existential False some any = refl
no-existential (Eq a b) some any = refl
no-existential (Lt a b) some any = refl
no-existential (Le a b) some any = refl
no-existential (Not' s (one f end)) some any = refl
no-existential (And' s (one f end) t (one g end)) some any = refl
no-existential (Or' s (one f end) t (one g end)) some any = refl
no-existential (Implies' s (one f end) t (one g end)) some any = refl
no-existential (All' x s (one f end)) some any = refl
no-existential (Exists' x s (one f end)) some any = absurd (some x f refl)
no-existential (Each' m label tag s (one f end)) some any = refl
no-existential (Any' m label tag s (one f end)) some any = absurd (any m label tag f refl)
