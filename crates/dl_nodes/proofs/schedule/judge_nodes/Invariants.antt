use Rattle.dl_nodes.proofs.RoundLemmas.{JudgedSoFar}
use Rattle.dl_nodes.proofs.schedule.judge_nodes.Given as goal

abbrev pub invariant-loop-bare : goal.invariant-loop-bare
invariant-loop-bare l = JudgedSoFar l.procs l.budget l.initial.nodes l.nodes l.bare-index
