use Rattle.std.proofs.Common.{refl}
use Rattle.std.proofs.lemmas.Bool.{false≢true}
use Rattle.dl_term.specs.Syntax.{opened}
use Rattle.dl_model.proofs.laws.updates_compute.Goals as goal

pub returns-clause-first : goal.returns-clause-first
unfolding opened
returns-clause-first c = refl

pub returns-clause-sent : goal.returns-clause-sent
unfolding opened
returns-clause-sent c = refl

pub returns-clause-raw : goal.returns-clause-raw
unfolding opened
returns-clause-raw c = refl

pub returns-clause-out_of_sort : goal.returns-clause-out_of_sort
unfolding opened
returns-clause-out_of_sort c = refl

pub returns-clause-disabled : goal.returns-clause-disabled
unfolding opened
returns-clause-disabled c h = false≢true h.updates
