-- What a formula is made of.
use Rattle.std.specs.Prelude.{Bool, true, false, Option, Some, None}
use Rattle.dl_term.specs.declared.syntax.Formula.{Formula, True, False, Eq, Not', And', Or', Implies', All', Exists', Each', Any', more_of-Formula as one, end_of-Formula as end}
use Rattle.dl_kernel.specs.declared.parts.Two.{Two}
use Rattle.dl_kernel.specs.declared.parts.Equation.{Equation}
use Rattle.dl_kernel.specs.declared.parts.Quantified.{Quantified}
use Rattle.dl_kernel.specs.declared.parts.Quantified.TheVariants.{Nodes, Messages}

abbrev pub is_true : Formula → Bool
is_true True = true
is_true _ = false

abbrev pub is_false : Formula → Bool
is_false False = true
is_false _ = false

abbrev pub as_equation : Formula → Option Equation
as_equation (Eq a b) = Some (record { left = a; right = b })
as_equation _ = None

-- the equation whose negation this is
abbrev pub as_denied : Formula → Option Equation
as_denied (Not' _ (one f end)) = as_equation f
as_denied _ = None

abbrev pub as_and : Formula → Option Two
as_and (And' _ (one f end) _ (one g end)) = Some (record { left = f; right = g })
as_and _ = None

abbrev pub as_or : Formula → Option Two
as_or (Or' _ (one f end) _ (one g end)) = Some (record { left = f; right = g })
as_or _ = None

-- what an implication asks for, and what it gives; a negation gives `false`
abbrev pub as_implication : Formula → Option Two
as_implication (Implies' _ (one f end) _ (one g end)) = Some (record { left = f; right = g })
as_implication (Not' _ (one f end)) = Some (record { left = f; right = False })
as_implication _ = None

-- for each node, or for each message
abbrev pub as_universal : Formula → Option Quantified
as_universal (All' x _ (one f end)) = Some (Nodes x f)
as_universal (Each' m label tag _ (one f end)) = Some (Messages m label tag f)
as_universal _ = None

-- for some node, or for some message
abbrev pub as_existential : Formula → Option Quantified
as_existential (Exists' x _ (one f end)) = Some (Nodes x f)
as_existential (Any' m label tag _ (one f end)) = Some (Messages m label tag f)
as_existential _ = None
