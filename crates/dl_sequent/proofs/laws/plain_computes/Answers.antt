use Rattle.std.proofs.Common.{refl}
use Rattle.dl_term.specs.Syntax.{opened}
use Rattle.dl_sequent.proofs.laws.plain_computes.Goals as goal

pub returns-clause-fact : goal.returns-clause-fact
unfolding opened
returns-clause-fact c = refl

pub returns-clause-part : goal.returns-clause-part
unfolding opened
returns-clause-part c = refl

pub returns-clause-part_of_or : goal.returns-clause-part_of_or
unfolding opened
returns-clause-part_of_or c = refl

pub returns-clause-itself : goal.returns-clause-itself
unfolding opened
returns-clause-itself c = refl

pub returns-clause-by_value : goal.returns-clause-by_value
unfolding opened
returns-clause-by_value c = refl

pub returns-clause-below : goal.returns-clause-below
unfolding opened
returns-clause-below c = refl

pub returns-clause-denied : goal.returns-clause-denied
unfolding opened
returns-clause-denied c = refl

pub returns-clause-denied_twice : goal.returns-clause-denied_twice
unfolding opened
returns-clause-denied_twice c = refl

pub returns-clause-both : goal.returns-clause-both
unfolding opened
returns-clause-both c = refl

pub returns-clause-either : goal.returns-clause-either
unfolding opened
returns-clause-either c = refl

pub returns-clause-false_left : goal.returns-clause-false_left
unfolding opened
returns-clause-false_left c = refl

pub returns-clause-true_left : goal.returns-clause-true_left
unfolding opened
returns-clause-true_left c = refl

pub returns-clause-left_is_a_fact : goal.returns-clause-left_is_a_fact
unfolding opened
returns-clause-left_is_a_fact c = refl

pub returns-clause-some : goal.returns-clause-some
unfolding opened
returns-clause-some c = refl
