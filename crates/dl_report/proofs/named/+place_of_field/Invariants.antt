use Rattle.std.proofs.Common.{length}
use Rattle.dl_report.proofs.named.+place_of_field.Given as goal

abbrev pub decreases-place_of_field : goal.decreases-place_of_field
decreases-place_of_field l = length l.fields.now
