use Rattle.std.proofs.Common.{◌≡◌, ◌++◌, drop}
use Rattle.dl_scope.proofs.saved.add_named.Given as goal

abbrev pub invariant-loop-is_message : goal.invariant-loop-is_message
invariant-loop-is_message l = l.named ++ drop l.is_message-index l.more ≡ l.initial.named ++ l.more
