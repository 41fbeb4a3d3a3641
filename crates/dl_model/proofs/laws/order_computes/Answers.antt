use Rattle.std.proofs.Common.{refl}
use Rattle.dl_term.specs.Syntax.{opened}
use Rattle.dl_model.proofs.laws.order_computes.Goals as goal

pub returns-clause-oldest : goal.returns-clause-oldest
unfolding opened
returns-clause-oldest c = refl

pub returns-clause-newest : goal.returns-clause-newest
unfolding opened
returns-clause-newest c = refl

pub returns-clause-nothing : goal.returns-clause-nothing
unfolding opened
returns-clause-nothing c = refl

pub returns-clause-drawn : goal.returns-clause-drawn
unfolding opened
returns-clause-drawn c = refl

pub returns-clause-seed : goal.returns-clause-seed
unfolding opened
returns-clause-seed c = refl

pub returns-clause-again : goal.returns-clause-again
unfolding opened
returns-clause-again c = refl
