use Rattle.std.proofs.Common.{◌≡◌, ◌+◌, ◌++◌, length}
use Rattle.std.specs.List.{concat, AllByRecursion as Each}
use Rattle.dl_report.specs.Layout.{entry_lines}
use Rattle.dl_report.specs.Fitting.{EntryFits}
use Rattle.dl_report.proofs.read.take_entries.Given as goal

abbrev pub invariant-loop-entry : goal.invariant-loop-entry
invariant-loop-entry l = record {
  fits : Each (EntryFits l.decls) l.entries;
  taken : l.text ≡ concat (entry_lines l.names l.decls 1 l.entries) ++ l.rest;
  number : l.number ≡ length l.entries + 1;
}

abbrev pub decreases-loop-entry : goal.decreases-loop-entry
decreases-loop-entry l = length l.rest
