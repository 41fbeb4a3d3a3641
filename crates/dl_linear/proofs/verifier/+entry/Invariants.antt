use Rattle.std.proofs.Common.{◌≡◌, take, pos, Some}
use Rattle.dl_linear.specs.Columns.{all_made, column_sum}
use Rattle.dl_linear.proofs.verifier.+entry.Given as goal

abbrev pub invariant-summed-loop-part : goal.invariant-summed-loop-part
invariant-summed-loop-part l = column_sum l.column (pos 0) (all_made l.rows (take l.part-index l.parts)) ≡ Some l.sum
