use Rattle.std.proofs.Common.{length}
use Rattle.dl_wp.proofs.plan.+argument.Given as goal

abbrev pub decreases-argument : goal.decreases-argument
decreases-argument l = length l.params.now
