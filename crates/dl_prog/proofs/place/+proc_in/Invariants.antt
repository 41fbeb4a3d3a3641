use Rattle.std.proofs.Common.{length}
use Rattle.dl_prog.proofs.place.+proc_in.Given as goal

abbrev pub decreases-proc_in : goal.decreases-proc_in
decreases-proc_in l = length l.steps.now
