use Rattle.std.proofs.Common.{length}
use Rattle.dl_wp.proofs.plan.+update_of.Given as goal

abbrev pub decreases-update_of : goal.decreases-update_of
decreases-update_of l = length l.updates.now
