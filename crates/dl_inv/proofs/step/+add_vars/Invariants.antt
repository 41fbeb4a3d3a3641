use Rattle.std.proofs.Common.{length}
use Rattle.dl_inv.proofs.step.+add_vars.Given as goal

abbrev pub decreases-add_vars : goal.decreases-add_vars
decreases-add_vars l = length l.names.now
