use Rattle.dl_model.specs.Runs.{initial}
use Rattle.dl_history.proofs.Histories.{leads-same}
use Rattle.dl_history.proofs.laws.run_decides.Goals as goal

pub returns : goal.returns
returns c d es = leads-same d es (initial d)
