use Rattle.std.proofs.Common.{length}
use Rattle.dl_forms.proofs.names.+tag_in.Given as goal

abbrev pub decreases-tag_in : goal.decreases-tag_in
decreases-tag_in l = length l.tags.now
