use Rattle.dl_nodes.proofs.WorldLemmas.{serial-runs}
use Rattle.dl_nodes.proofs.laws.serial_runs_are_soup_runs.Goals as goal

pub returns : goal.returns
returns c = serial-runs
