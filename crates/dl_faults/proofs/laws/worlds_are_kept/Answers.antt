use Rattle.dl_faults.proofs.Kept.{worlds-kept}
use Rattle.dl_faults.proofs.laws.worlds_are_kept.Goals as goal

pub returns : goal.returns
returns c = worlds-kept
