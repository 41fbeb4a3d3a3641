use Rattle.dl_wp.proofs.calls.make_received.Goals as goal

pub returns-clause-made : goal.returns-clause-made
returns-clause-made c = rw (← c.requires.sender, ← c.requires.args, ← c.tag_of-tag.ensures, ← c.params_of.ensures, ← c.updates_of_receive.ensures) c.make.ensures.made

pub returns-clause-quiet : goal.returns-clause-quiet
returns-clause-quiet c = rw (← c.requires.sender, ← c.requires.args, ← c.tag_of-tag.ensures, ← c.params_of.ensures, ← c.updates_of_receive.ensures) c.make.ensures.quiet

pub returns-clause-capture : goal.returns-clause-capture
returns-clause-capture c = rw (← c.requires.sender, ← c.requires.args, ← c.tag_of-tag.ensures, ← c.params_of.ensures, ← c.updates_of_receive.ensures) c.make.ensures.capture

pub returns-clause-size : goal.returns-clause-size
returns-clause-size c = rw (← c.requires.sender, ← c.requires.args, ← c.tag_of-tag.ensures, ← c.params_of.ensures, ← c.updates_of_receive.ensures) c.make.ensures.size
