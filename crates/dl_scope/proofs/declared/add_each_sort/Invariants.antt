use Rattle.std.proofs.Common.{◌≡◌, ◌++◌, drop}
use Rattle.dl_scope.proofs.declared.add_each_sort.Given as goal

abbrev pub invariant-loop-sort : goal.invariant-loop-sort
invariant-loop-sort l = l.sorts ++ drop l.sort-index l.more ≡ l.initial.sorts ++ l.more
