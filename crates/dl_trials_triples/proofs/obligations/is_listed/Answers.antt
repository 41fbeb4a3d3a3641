use Rattle.dl_trials_triples.proofs.obligations.is_listed.Goals as goal

pub duties-requires-clause-small : goal.duties-requires-clause-small
duties-requires-clause-small c = (c.in_ok-is_formed.ensures.0 c.if-not-branch.false).small

pub duties-requires-clause-formed : goal.duties-requires-clause-formed
duties-requires-clause-formed c = (c.in_ok-is_formed.ensures.0 c.if-not-branch.false).inst
