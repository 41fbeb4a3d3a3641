use Rattle.std.proofs.Common.{◌≡◌, ◌++◌, drop}
use Rattle.dl_means.proofs.worlds.add_all.Given as goal

abbrev pub invariant-loop-name : goal.invariant-loop-name
invariant-loop-name l =
    l.all ++ drop l.name-index l.names ≡ l.initial.all ++ l.names
