use Rattle.dl_model.proofs.Sorted.{first-sorted, step-sorted}
use Rattle.dl_model.proofs.laws.well_sorted_is_kept.Goals as goal

pub returns-clause-first : goal.returns-clause-first
returns-clause-first c = first-sorted

pub returns-clause-step : goal.returns-clause-step
returns-clause-step c = step-sorted
