use Rattle.dl_faults.proofs.Accepted.{invariants-kept}
use Rattle.dl_faults.proofs.laws.faultless_files_keep_invariants.Goals as goal

pub returns : goal.returns
returns c = invariants-kept
