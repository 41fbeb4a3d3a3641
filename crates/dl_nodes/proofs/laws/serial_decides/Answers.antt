use Rattle.dl_nodes.proofs.Decided.{serial-same}
use Rattle.dl_nodes.proofs.laws.serial_decides.Goals as goal

pub returns : goal.returns
returns c = serial-same
