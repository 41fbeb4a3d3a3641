use Rattle.std.proofs.Common.{◌≡◌, take}
use Rattle.dl_formed.proofs.collect.numbers_of.Given as goal

abbrev pub invariant-loop-position : goal.invariant-loop-position
invariant-loop-position l = l.numbers ≡ take l.position-index l.positions
