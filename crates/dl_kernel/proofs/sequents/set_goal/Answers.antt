use Rattle.dl_kernel.proofs.sequents.set_goal.Goals as goal

pub returns-clause-new : goal.returns-clause-new
returns-clause-new c = c.swap_goal.ensures.new

pub returns-clause-clean : goal.returns-clause-clean
returns-clause-clean c = c.swap_goal.ensures.clean
