use Rattle.std.proofs.Common.{length}
use Rattle.dl_prog.proofs.place.+far_commands.Given as goal

abbrev pub decreases-far_commands : goal.decreases-far_commands
decreases-far_commands l = length l.steps.now
