-- A choice between two things, as the definitions of changed terms, formulas and names make it.
use Rattle.std.proofs.Common.{◌≡◌, Bool, true, false, if◌then◌else◌, refl}
use Rattle.dl_term.specs.declared.syntax.Term.{Term}
use Rattle.dl_term.specs.declared.syntax.Formula.{Formula}
use Rattle.dl_term.specs.State.{State}
use Rattle.dl_term.specs.Names.{Names}
use Rattle.dl_term.specs.Meaning.{value, holds}

-- a test that never passes chooses the second
pub not-chosen : {X : Type 0} (test : Bool) (a b : X) → (test ≡ true → ⊥) → (if test then a else b) ≡ b
not-chosen true a b h = absurd (h refl)
not-chosen false a b h = refl

-- the value of the term that is chosen, and the truth of the formula
pub value-if : (test : Bool) (a b : Term) (names : Names) (state : State) → value (if test then a else b) names state ≡ (if test then value a names state else value b names state)
value-if true a b names state = refl
value-if false a b names state = refl

pub holds-if : (test : Bool) (f g : Formula) (names : Names) (state : State) → holds (if test then f else g) names state ≡ (if test then holds f names state else holds g names state)
holds-if true f g names state = refl
holds-if false f g names state = refl
