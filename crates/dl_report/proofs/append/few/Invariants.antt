use Rattle.std.proofs.Common.{◌≡◌, ◌++◌, length}
use Rattle.dl_report.proofs.append.few.Given as goal

abbrev pub invariant-loop-first : goal.invariant-loop-first
invariant-loop-first l = l.out.items ++ l.rest ≡ l.fn.out.items ++ l.piece

abbrev pub decreases-loop-first : goal.decreases-loop-first
decreases-loop-first l = length l.rest
