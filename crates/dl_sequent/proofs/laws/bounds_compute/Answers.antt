use Rattle.std.proofs.Common.{refl}
use Rattle.dl_term.specs.Syntax.{opened}
use Rattle.dl_sequent.proofs.laws.bounds_compute.Goals as goal

pub returns-clause-number : goal.returns-clause-number
unfolding opened
returns-clause-number c = refl

pub returns-clause-variable : goal.returns-clause-variable
unfolding opened
returns-clause-variable c = refl

pub returns-clause-unknown : goal.returns-clause-unknown
unfolding opened
returns-clause-unknown c = refl

pub returns-clause-field : goal.returns-clause-field
unfolding opened
returns-clause-field c = refl

pub returns-clause-own_field : goal.returns-clause-own_field
unfolding opened
returns-clause-own_field c = refl

pub returns-clause-length : goal.returns-clause-length
unfolding opened
returns-clause-length c = refl

pub returns-clause-id : goal.returns-clause-id
unfolding opened
returns-clause-id c = refl

pub returns-clause-from : goal.returns-clause-from
unfolding opened
returns-clause-from c = refl

pub returns-clause-live : goal.returns-clause-live
unfolding opened
returns-clause-live c = refl

pub returns-clause-argument : goal.returns-clause-argument
unfolding opened
returns-clause-argument c = refl

pub returns-clause-past_the_last : goal.returns-clause-past_the_last
unfolding opened
returns-clause-past_the_last c = refl

pub returns-clause-node : goal.returns-clause-node
unfolding opened
returns-clause-node c = refl

pub returns-clause-no_node : goal.returns-clause-no_node
unfolding opened
returns-clause-no_node c = refl
