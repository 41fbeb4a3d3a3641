use Rattle.dl_nodes.specs.Players.{left_to}
use Rattle.dl_nodes.proofs.RoundLemmas.{PlaySoFar}
use Rattle.dl_nodes.proofs.schedule.play.Given as goal

abbrev pub invariant-loop : goal.invariant-loop
invariant-loop l = PlaySoFar l.procs l.budget l.initial.soup l.soup l.initial.nodes l.nodes

abbrev pub decreases-loop : goal.decreases-loop
decreases-loop l = left_to l.budget l.nodes
