use Rattle.std.proofs.Common.{length}
use Rattle.dl_prog.proofs.cont.Cont.+leave_made.Given as goal

abbrev pub decreases-leave_made : goal.decreases-leave_made
decreases-leave_made l = length l.self.now.steps.items
