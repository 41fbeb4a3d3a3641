use Rattle.dl_inv.proofs.Captured.{none-captured}
use Rattle.dl_inv.proofs.laws.nothing_is_captured.Goals as goal

pub returns : goal.returns
returns c = none-captured
