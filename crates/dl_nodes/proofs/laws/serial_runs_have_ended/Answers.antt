use Rattle.dl_nodes.proofs.EndedLemmas.{serial-ended}
use Rattle.dl_nodes.proofs.laws.serial_runs_have_ended.Goals as goal

pub returns : goal.returns
returns c = serial-ended
