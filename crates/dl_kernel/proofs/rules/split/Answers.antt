use Rattle.dl_kernel.specs.Seen.{two_if}
use Rattle.dl_kernel.proofs.RuleLemmas.{same-left, split-taken, split-none}
use Rattle.dl_kernel.proofs.rules.split.Goals as goal

pub returns-in-Some : goal.returns-in-Some
returns-in-Some c =
    same-left c.show_both-one.result (λ one. two_if one c.show_both-one.new.sequent) _ _
    (split-taken c.args.sequent.now c.take_goal.new.sequent c.take_goal.result c.in-Some.two c.take_goal.ensures.rest c.take_goal.ensures.goal c.in-Some.ensures)
    c.show_both-one.ensures

pub returns-in-None : goal.returns-in-None
returns-in-None c = split-none c.args.sequent.now c.take_goal.new.sequent c.take_goal.result c.take_goal.ensures.goal c.in-None.ensures
