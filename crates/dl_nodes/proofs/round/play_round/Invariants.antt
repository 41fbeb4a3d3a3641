use Rattle.dl_nodes.proofs.RoundLemmas.{RoundSoFar}
use Rattle.dl_nodes.proofs.round.play_round.Given as goal

abbrev pub invariant-loop-bare : goal.invariant-loop-bare
invariant-loop-bare l = RoundSoFar l.procs l.budget l.initial.soup l.soup l.initial.nodes l.nodes l.bare-index l.acts
