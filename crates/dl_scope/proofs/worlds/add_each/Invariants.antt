use Rattle.std.proofs.Common.{◌≡◌, ◌++◌, drop}
use Rattle.dl_scope.proofs.worlds.add_each.Given as goal

abbrev pub invariant-loop-text : goal.invariant-loop-text
invariant-loop-text l = l.texts.keys ++ drop l.text-index l.more ≡ l.initial.texts.keys ++ l.more
