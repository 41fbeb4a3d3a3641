use Rattle.std.proofs.Common.{◌≡◌, ◌++◌, drop}
use Rattle.dl_verdict.proofs.whole.add_all.Given as goal

abbrev pub invariant-loop-duty : goal.invariant-loop-duty
invariant-loop-duty l = l.list ++ drop l.duty-index l.more ≡ l.initial.list ++ l.more
