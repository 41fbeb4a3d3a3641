use Rattle.std.proofs.Common.{◌≡◌, ◌++◌, map, length}
use Rattle.std.specs.Fmt.{signed_decimal}
use Rattle.dl_report.specs.Spaced.{spaced}
use Rattle.dl_report.proofs.write.integers.Given as goal

abbrev pub invariant-loop-value : goal.invariant-loop-value
invariant-loop-value l = l.out.items ++ spaced (map signed_decimal l.rest) ≡ l.fn.out.items ++ spaced (map signed_decimal l.values)

abbrev pub decreases-loop-value : goal.decreases-loop-value
decreases-loop-value l = length l.rest
