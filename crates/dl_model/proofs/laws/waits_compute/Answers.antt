use Rattle.std.proofs.Common.{refl}
use Rattle.dl_model.proofs.laws.waits_compute.Goals as goal

pub returns : goal.returns
returns c = refl
