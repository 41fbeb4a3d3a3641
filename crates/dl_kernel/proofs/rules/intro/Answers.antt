use Rattle.dl_kernel.specs.Seen.{one_if}
use Rattle.dl_kernel.proofs.RuleLemmas.{same-left, intro-taken, intro-none}
use Rattle.dl_kernel.proofs.rules.intro.Goals as goal

pub returns-in-Some : goal.returns-in-Some
returns-in-Some c =
    same-left c.suppose-fits.result (λ fine. one_if fine c.suppose-fits.new.sequent) _ _
    (intro-taken c.args.sequent.now c.take_goal.new.sequent c.args.name c.take_goal.result c.in-Some.two c.take_goal.ensures.rest c.take_goal.ensures.goal c.in-Some.ensures)
    c.suppose-fits.ensures

pub returns-in-None : goal.returns-in-None
returns-in-None c = intro-none c.args.sequent.now c.take_goal.new.sequent c.args.name c.take_goal.result c.take_goal.ensures.goal c.in-None.ensures
