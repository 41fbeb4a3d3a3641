use Rattle.dl_nodes.proofs.TraceLemmas.{serial-traced}
use Rattle.dl_nodes.proofs.laws.serial_runs_are_traced.Goals as goal

pub returns : goal.returns
returns c = serial-traced
