use Rattle.std.proofs.Common.{◌≡◌, ◌+◌, ◌++◌, length}
use Rattle.std.specs.List.{concat}
use Rattle.dl_report.specs.Kept.{AreKept}
use Rattle.dl_report.specs.Layout.{entry_lines}
use Rattle.dl_report.proofs.write.all_entries.Given as goal

abbrev pub invariant-loop-first : goal.invariant-loop-first
invariant-loop-first l = record {
  lines : l.out.items ++ concat (entry_lines l.names l.decls (l.number + 1) l.rest) ≡ l.fn.out.items ++ concat (entry_lines l.names l.decls 1 l.entries);
  many : l.number + length l.rest ≡ length l.entries;
  kept : AreKept l.names l.decls l.fronts;
}

abbrev pub decreases-loop-first : goal.decreases-loop-first
decreases-loop-first l = length l.rest
