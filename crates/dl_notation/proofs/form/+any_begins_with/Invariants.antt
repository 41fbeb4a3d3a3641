use Rattle.std.proofs.Common.{length}
use Rattle.dl_notation.proofs.form.+any_begins_with.Given as goal

abbrev pub decreases-any_begins_with : goal.decreases-any_begins_with
decreases-any_begins_with l = length l.trees.now
