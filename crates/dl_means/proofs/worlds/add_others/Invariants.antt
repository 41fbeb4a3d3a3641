use Rattle.std.proofs.Common.{◌≡◌, ◌++◌, drop}
use Rattle.dl_notation.specs.Worlds.{without}
use Rattle.dl_means.proofs.worlds.add_others.Given as goal

abbrev pub invariant-loop-name : goal.invariant-loop-name
invariant-loop-name l =
    l.all ++ without l.first (drop l.name-index l.names) ≡ l.initial.all ++ without l.first l.names
