use Rattle.std.proofs.Common.{length}
use Rattle.dl_proto.proofs.find.+are_each_in_sorts.Given as goal

abbrev pub decreases-are_each_in_sorts : goal.decreases-are_each_in_sorts
decreases-are_each_in_sorts l = length l.params.now
