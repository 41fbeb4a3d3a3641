use Rattle.std.proofs.Common.{◌∙◌}
use Rattle.dl_verdict.proofs.duties.judge.Goals as goal

pub duties-requires-clause-small : goal.duties-requires-clause-small
duties-requires-clause-small c = c.requires.decls.small

pub duties-requires-clause-formed : goal.duties-requires-clause-formed
duties-requires-clause-formed c = c.requires.decls.inst

pub fault_among-requires-clause-all : goal.fault_among-requires-clause-all
fault_among-requires-clause-all c = c.as_slice.ensures ∙ c.in_ok-list.ensures
