use Rattle.std.proofs.Common.{refl}
use Rattle.dl_term.specs.Syntax.{opened}
use Rattle.dl_model.proofs.laws.machine_computes.Goals as goal

pub returns-clause-stops : goal.returns-clause-stops
unfolding opened
returns-clause-stops c = refl

pub returns-clause-sets : goal.returns-clause-sets
unfolding opened
returns-clause-sets c = refl

pub returns-clause-missed : goal.returns-clause-missed
unfolding opened
returns-clause-missed c = refl

pub returns-clause-polled : goal.returns-clause-polled
unfolding opened
returns-clause-polled c = refl

pub returns-clause-sender : goal.returns-clause-sender
unfolding opened
returns-clause-sender c = refl

pub returns-clause-loops : goal.returns-clause-loops
unfolding opened
returns-clause-loops c = refl
