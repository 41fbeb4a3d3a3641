use Rattle.std.proofs.Common.{◌≡◌, ◌++◌, length}
use Rattle.std.specs.List.{concat}
use Rattle.dl_report.specs.Layout.{end_lines}
use Rattle.dl_report.proofs.write.endings.Given as goal

abbrev pub invariant-loop-first : goal.invariant-loop-first
invariant-loop-first l = l.out.items ++ concat (end_lines l.names l.rest) ≡ l.fn.out.items ++ concat (end_lines l.names l.ends)

abbrev pub decreases-loop-first : goal.decreases-loop-first
decreases-loop-first l = length l.rest
