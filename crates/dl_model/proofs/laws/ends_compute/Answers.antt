use Rattle.std.proofs.Common.{refl}
use Rattle.dl_term.specs.Syntax.{opened}
use Rattle.dl_model.proofs.laws.ends_compute.Goals as goal

pub returns-clause-ended : goal.returns-clause-ended
unfolding opened
returns-clause-ended c = refl

pub returns-clause-units : goal.returns-clause-units
unfolding opened
returns-clause-units c = refl

pub returns-clause-waiting : goal.returns-clause-waiting
unfolding opened
returns-clause-waiting c = refl

pub returns-clause-goes_on : goal.returns-clause-goes_on
unfolding opened
returns-clause-goes_on c = refl

pub returns-clause-spent : goal.returns-clause-spent
unfolding opened
returns-clause-spent c = refl

pub returns-clause-not_looked_at : goal.returns-clause-not_looked_at
unfolding opened
returns-clause-not_looked_at c = refl

pub returns-clause-stopped : goal.returns-clause-stopped
unfolding opened
returns-clause-stopped c = refl

pub returns-clause-stopped_units : goal.returns-clause-stopped_units
unfolding opened
returns-clause-stopped_units c = refl
