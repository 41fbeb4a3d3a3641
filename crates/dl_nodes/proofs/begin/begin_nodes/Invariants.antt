use Rattle.dl_nodes.proofs.BeginLemmas.{NodesSoFar}
use Rattle.dl_nodes.proofs.begin.begin_nodes.Given as goal

abbrev pub invariant-loop-node : goal.invariant-loop-node
invariant-loop-node l = NodesSoFar l.decls l.nodes.items l.node
