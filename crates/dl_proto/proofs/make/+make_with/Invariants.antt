use Rattle.std.proofs.Common.{length}
use Rattle.dl_proto.proofs.make.+make_with.Given as goal

abbrev pub decreases-make_with : goal.decreases-make_with
decreases-make_with l = length l.numbers.now
