use Rattle.std.proofs.Common.{length}
use Rattle.dl_prog.proofs.values.+passes_in.Given as goal

abbrev pub decreases-passes_in : goal.decreases-passes_in
decreases-passes_in l = length l.slots.now
