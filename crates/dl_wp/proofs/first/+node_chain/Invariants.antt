use Rattle.dl_wp.proofs.first.+node_chain.Given as goal

abbrev pub decreases-node_chain : goal.decreases-node_chain
decreases-node_chain l = l.count
