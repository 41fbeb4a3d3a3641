use Rattle.dl_kernel.proofs.Replayed.{replay-sound}
use Rattle.dl_kernel.proofs.laws.scripts_prove.Goals as goal

pub returns : goal.returns
returns c inst rule place s formed h = replay-sound inst rule place s formed h
