use Rattle.std.proofs.Common.{length}
use Rattle.dl_parts.proofs.sends.+add_sorts.Given as goal

abbrev pub decreases-add_sorts : goal.decreases-add_sorts
decreases-add_sorts l = length l.terms.now
