use Rattle.std.proofs.Common.{length}
use Rattle.dl_report.proofs.named.+place_of_tag.Given as goal

abbrev pub decreases-place_of_tag : goal.decreases-place_of_tag
decreases-place_of_tag l = length l.tags.now
