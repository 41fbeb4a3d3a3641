use Rattle.std.proofs.Common.{◌-◌}
use Rattle.dl_nodes.proofs.TurnLemmas.{TurnSoFar}
use Rattle.dl_nodes.proofs.turn.take_turn.Given as goal

abbrev pub invariant-loop-bare : goal.invariant-loop-bare
invariant-loop-bare l = TurnSoFar l.procs l.initial.soup l.soup l.budget l.initial.bare l.bare

abbrev pub decreases-loop-bare : goal.decreases-loop-bare
decreases-loop-bare l = l.budget - l.bare.units
