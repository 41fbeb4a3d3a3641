use Rattle.std.proofs.Common.{◌≡◌, drop}
use Rattle.dl_formed.specs.Decided.{are_below}
use Rattle.dl_formed.proofs.worlds.are_below.Given as goal

abbrev pub invariant-loop-position : goal.invariant-loop-position
invariant-loop-position l = are_below l.count (drop l.position-index l.positions) ≡ are_below l.count l.positions
