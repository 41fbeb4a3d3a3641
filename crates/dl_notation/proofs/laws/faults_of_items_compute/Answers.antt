use Rattle.std.proofs.Common.{refl}
use Rattle.dl_forms.specs.Form.{head_named}
use Rattle.dl_forms.specs.Table.{reserved}
use Rattle.dl_notation.proofs.BehindLemmas.{computing}
use Rattle.dl_notation.proofs.laws.faults_of_items_compute.Goals as goal

pub returns-clause-unknown : goal.returns-clause-unknown
unfolding head_named reserved
returns-clause-unknown c = simp computing refl

pub returns-clause-of_itself : goal.returns-clause-of_itself
unfolding head_named reserved
returns-clause-of_itself c = simp computing refl

pub returns-clause-twice : goal.returns-clause-twice
unfolding head_named reserved
returns-clause-twice c = simp computing refl

pub returns-clause-updated_twice : goal.returns-clause-updated_twice
unfolding head_named reserved
returns-clause-updated_twice c = simp computing refl

pub returns-clause-shadow : goal.returns-clause-shadow
unfolding head_named reserved
returns-clause-shadow c = simp computing refl

pub returns-clause-no_zero : goal.returns-clause-no_zero
unfolding head_named reserved
returns-clause-no_zero c = simp computing refl

pub returns-clause-outside : goal.returns-clause-outside
unfolding head_named reserved
returns-clause-outside c = simp computing refl

pub returns-clause-arity : goal.returns-clause-arity
unfolding head_named reserved
returns-clause-arity c = simp computing refl
