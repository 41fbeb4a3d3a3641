use Rattle.std.proofs.Common.{length}
use Rattle.dl_nodes.proofs.begin.+program_in.Given as goal

abbrev pub decreases-program_in : goal.decreases-program_in
decreases-program_in l = length l.programs.now
