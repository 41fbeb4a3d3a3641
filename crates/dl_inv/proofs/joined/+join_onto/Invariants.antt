use Rattle.std.proofs.Common.{length}
use Rattle.dl_inv.proofs.joined.+join_onto.Given as goal

abbrev pub decreases-join_onto : goal.decreases-join_onto
decreases-join_onto l = length l.parts.now
