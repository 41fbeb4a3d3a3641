use Rattle.dl_history.proofs.Histories.{condensed-run}
use Rattle.dl_history.proofs.Passing.{kept-states}
use Rattle.dl_history.proofs.laws.waits_are_idle.Goals as goal

pub returns-clause-run : goal.returns-clause-run
returns-clause-run c = condensed-run

pub returns-clause-states : goal.returns-clause-states
returns-clause-states c inst state entries = kept-states inst state entries
