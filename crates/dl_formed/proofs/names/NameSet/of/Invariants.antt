use Rattle.std.proofs.Common.{drop}
use Rattle.dl_formed.proofs.Marking.{MarksBefore}
use Rattle.dl_formed.proofs.names.NameSet.of.Given as goal

abbrev pub invariant-loop-name : goal.invariant-loop-name
invariant-loop-name l = MarksBefore (drop l.name-index l.names) l.names l.marks.items
