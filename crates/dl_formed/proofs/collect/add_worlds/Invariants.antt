use Rattle.std.proofs.Common.{◌≡◌, ◌++◌, take}
use Rattle.dl_formed.specs.Collected.{world_names}
use Rattle.dl_formed.proofs.collect.add_worlds.Given as goal

abbrev pub invariant-loop-world : goal.invariant-loop-world
invariant-loop-world l = l.names ≡ l.initial.names ++ world_names (take l.world-index l.worlds)
