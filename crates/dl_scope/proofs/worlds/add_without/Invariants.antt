use Rattle.std.proofs.Common.{◌≡◌, ◌++◌, drop}
use Rattle.dl_notation.specs.Worlds.{without}
use Rattle.dl_scope.proofs.worlds.add_without.Given as goal

abbrev pub invariant-loop-text : goal.invariant-loop-text
invariant-loop-text l = l.texts.keys ++ without l.first.keys (drop l.text-index l.second) ≡ l.initial.texts.keys ++ without l.first.keys l.second
