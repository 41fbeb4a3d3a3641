use Rattle.std.proofs.Common.{◌≡◌, ◌++◌, length}
use Rattle.std.specs.List.{concat, AllByRecursion as Each}
use Rattle.dl_report.specs.Layout.{end_lines}
use Rattle.dl_report.specs.Fitting.{EndingFits}
use Rattle.dl_report.proofs.read.take_endings.Given as goal

abbrev pub invariant-loop-end : goal.invariant-loop-end
invariant-loop-end l = record {
  fits : Each (EndingFits l.decls) l.ends;
  taken : l.text ≡ concat (end_lines l.names l.ends) ++ l.rest;
}

abbrev pub decreases-loop-end : goal.decreases-loop-end
decreases-loop-end l = length l.rest
