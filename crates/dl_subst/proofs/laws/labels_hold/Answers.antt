use Rattle.dl_subst.proofs.Whole.{holds-with_label, value-with_label}
use Rattle.dl_subst.proofs.laws.labels_hold.Goals as goal

pub returns-clause-formulas : goal.returns-clause-formulas
returns-clause-formulas c f label names state = holds-with_label f label names state

pub returns-clause-terms : goal.returns-clause-terms
returns-clause-terms c t label names state = value-with_label t label names state
