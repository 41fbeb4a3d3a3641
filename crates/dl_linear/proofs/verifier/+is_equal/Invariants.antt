use Rattle.std.proofs.Common.{◌≡◌, true, take}
use Rattle.dl_linear.specs.Rows.{sum_onto, no_sum}
use Rattle.dl_linear.specs.Columns.{all_made}
use Rattle.dl_linear.proofs.verifier.+is_equal.Given as goal

abbrev pub invariant-loop-part : goal.invariant-loop-part
invariant-loop-part l = (sum_onto no_sum (all_made l.rows (take l.part-index l.part-items))).equal ≡ true
