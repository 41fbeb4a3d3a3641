use Rattle.std.proofs.Common.{zero, suc, refl}
use Rattle.std.proofs.lemmas.Bool.{false≢true}
use Rattle.dl_term.specs.Syntax.{opened}
use Rattle.dl_model.proofs.laws.hook_computes.Goals as goal

pub returns-clause-unmet : goal.returns-clause-unmet
unfolding opened
returns-clause-unmet c h = false≢true (h 0 refl refl refl)

pub returns-clause-met : goal.returns-clause-met
unfolding opened
returns-clause-met c zero m l t = refl
returns-clause-met c (suc n) m l t = cc

pub returns-clause-not_of_another : goal.returns-clause-not_of_another
unfolding opened
returns-clause-not_of_another c h = false≢true (h 0 refl refl refl)

pub returns-clause-other_label : goal.returns-clause-other_label
unfolding opened
returns-clause-other_label c zero m l t = cc
returns-clause-other_label c (suc n) m l t = cc

pub returns-clause-small : goal.returns-clause-small
unfolding opened
returns-clause-small c hook m l t = cc
