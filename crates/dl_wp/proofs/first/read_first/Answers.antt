use Rattle.dl_wp.proofs.first.read_first.Goals as goal

pub returns-in-Some-clause-made : goal.returns-in-Some-clause-made
returns-in-Some-clause-made c = rw (← c.first_of.ensures, c.in-Some.is) c.value_at_terms.ensures.made

pub returns-in-Some-clause-left : goal.returns-in-Some-clause-left
returns-in-Some-clause-left c = rw (← c.first_of.ensures, c.in-Some.is) c.value_at_terms.ensures.left

pub returns-in-Some-clause-lacks : goal.returns-in-Some-clause-lacks
returns-in-Some-clause-lacks c = rw (← c.first_of.ensures, c.in-Some.is) c.value_at_terms.ensures.lacks

pub returns-in-None-clause-made : goal.returns-in-None-clause-made
returns-in-None-clause-made c = rw (← c.first_of.ensures, c.in-None.is) c.value_at_terms-in-None.ensures.made

pub returns-in-None-clause-left : goal.returns-in-None-clause-left
returns-in-None-clause-left c = rw (← c.first_of.ensures, c.in-None.is) c.value_at_terms-in-None.ensures.left

pub returns-in-None-clause-lacks : goal.returns-in-None-clause-lacks
returns-in-None-clause-lacks c = rw (← c.first_of.ensures, c.in-None.is) c.value_at_terms-in-None.ensures.lacks
