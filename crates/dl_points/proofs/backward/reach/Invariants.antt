use Rattle.std.proofs.Common.{◌≡◌, ◌+◌, drop}
use Rattle.dl_points.specs.Passing.{reach_of}
use Rattle.dl_points.proofs.backward.reach.Given as goal

abbrev pub invariant-loop-index : goal.invariant-loop-index
invariant-loop-index l = l.index + reach_of (drop l.index l.commands) ≡ reach_of l.commands
