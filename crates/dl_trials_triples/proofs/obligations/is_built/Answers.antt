use Rattle.dl_trials_triples.proofs.obligations.is_built.Goals as goal

pub build-requires-clause-small : goal.build-requires-clause-small
build-requires-clause-small c = (c.in_ok-is_formed.ensures.0 c.if-not-branch.false).small
