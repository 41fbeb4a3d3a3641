use Rattle.std.proofs.Common.{length}
use Rattle.dl_proto.proofs.test.+holds_with.Given as goal

abbrev pub decreases-holds_with : goal.decreases-holds_with
decreases-holds_with l = length l.numbers.now
