use Rattle.dl_term.proofs.SameLemmas.{term-is, formula-is, is-same_term, is-same_formula}
use Rattle.dl_term.proofs.laws.sameness_is_equality.Goals as goal

pub returns-clause-terms : goal.returns-clause-terms
returns-clause-terms c s t = (term-is s t, is-same_term s t)

pub returns-clause-formulas : goal.returns-clause-formulas
returns-clause-formulas c f g = (formula-is f g, is-same_formula f g)
