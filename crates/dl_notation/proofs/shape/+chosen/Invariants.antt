use Rattle.std.proofs.Common.{length}
use Rattle.dl_notation.proofs.shape.+chosen.Given as goal

abbrev pub decreases-chosen : goal.decreases-chosen
decreases-chosen l = length l.table.now
