use Rattle.std.proofs.Common.{refl}
use Rattle.dl_term.specs.Syntax.{opened}
use Rattle.dl_sequent.proofs.laws.clean_computes.Goals as goal

pub returns-clause-clean : goal.returns-clause-clean
unfolding opened
returns-clause-clean c = refl

pub returns-clause-bound_in_turn : goal.returns-clause-bound_in_turn
unfolding opened
returns-clause-bound_in_turn c = refl

pub returns-clause-bound_within : goal.returns-clause-bound_within
unfolding opened
returns-clause-bound_within c = refl

pub returns-clause-binds_a_variable : goal.returns-clause-binds_a_variable
unfolding opened
returns-clause-binds_a_variable c = refl

pub returns-clause-binds_a_message : goal.returns-clause-binds_a_message
unfolding opened
returns-clause-binds_a_message c = refl

pub returns-clause-unknown : goal.returns-clause-unknown
unfolding opened
returns-clause-unknown c = refl

pub returns-clause-a_message_for_a_variable : goal.returns-clause-a_message_for_a_variable
unfolding opened
returns-clause-a_message_for_a_variable c = refl
