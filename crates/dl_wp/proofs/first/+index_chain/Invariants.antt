use Rattle.dl_wp.proofs.first.+index_chain.Given as goal

abbrev pub decreases-index_chain : goal.decreases-index_chain
decreases-index_chain l = l.count
