use Rattle.dl_trials_history.proofs.replays.fault_of.Goals as goal

pub shape-requires : goal.shape-requires
shape-requires c = (c.in_ok-is_formed.ensures.0 c.if-not-branch.false).inst

pub replay-requires-clause-formed : goal.replay-requires-clause-formed
replay-requires-clause-formed c = c.in_ok-is_formed.ensures.0 c.if-not-branch.false
