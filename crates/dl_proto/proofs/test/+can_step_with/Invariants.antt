use Rattle.std.proofs.Common.{length}
use Rattle.dl_proto.proofs.test.+can_step_with.Given as goal

abbrev pub decreases-can_step_with : goal.decreases-can_step_with
decreases-can_step_with l = length l.numbers.now
