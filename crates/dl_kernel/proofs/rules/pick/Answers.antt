use Rattle.std.proofs.Common.{◌∙◌}
use Rattle.dl_kernel.proofs.RuleLemmas.{pick-taken, pick-none}
use Rattle.dl_kernel.proofs.rules.pick.Goals as goal

pub returns-in-Some : goal.returns-in-Some
returns-in-Some c =
    c.pick_from-fits.ensures
    ∙ pick-taken c.args.sequent.now c.take_goal.new.sequent c.args.part c.take_goal.result c.in-Some.two c.take_goal.ensures.rest c.take_goal.ensures.goal c.in-Some.ensures

pub returns-in-None : goal.returns-in-None
returns-in-None c = pick-none c.args.sequent.now c.take_goal.new.sequent c.args.part c.take_goal.result c.take_goal.ensures.goal c.in-None.ensures
