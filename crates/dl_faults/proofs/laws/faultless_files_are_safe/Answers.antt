use Rattle.dl_faults.proofs.Accepted.{runs-safe}
use Rattle.dl_faults.proofs.laws.faultless_files_are_safe.Goals as goal

pub returns : goal.returns
returns c = runs-safe
