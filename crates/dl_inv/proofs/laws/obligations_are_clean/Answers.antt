use Rattle.dl_inv.proofs.Clean.{obligations-clean}
use Rattle.dl_inv.proofs.laws.obligations_are_clean.Goals as goal

pub returns : goal.returns
returns c = obligations-clean
