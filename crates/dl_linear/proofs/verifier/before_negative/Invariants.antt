use Rattle.std.proofs.Common.{◌≡◌, true, take}
use Rattle.dl_linear.specs.Columns.{all_made, none_negative}
use Rattle.dl_linear.proofs.verifier.before_negative.Given as goal

abbrev pub invariant-loop-index : goal.invariant-loop-index
invariant-loop-index l = none_negative (all_made l.rows (take l.index l.parts)) ≡ true
