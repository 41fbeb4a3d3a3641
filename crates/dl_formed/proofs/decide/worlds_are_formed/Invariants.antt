use Rattle.std.proofs.Common.{◌≡◌, drop}
use Rattle.std.specs.List.{list_all}
use Rattle.dl_formed.specs.Decided.{world_is_formed}
use Rattle.dl_formed.proofs.decide.worlds_are_formed.Given as goal

abbrev pub invariant-loop-world : goal.invariant-loop-world
invariant-loop-world l = list_all (world_is_formed l.labels l.hooks) (drop l.world-index l.worlds) ≡ list_all (world_is_formed l.labels l.hooks) l.worlds
