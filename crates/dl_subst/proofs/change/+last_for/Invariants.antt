use Rattle.std.proofs.Common.{length}
use Rattle.dl_subst.proofs.change.+last_for.Given as goal

abbrev pub decreases-last_for : goal.decreases-last_for
decreases-last_for l = length l.syms.now
