use Rattle.std.proofs.Common.{◌∙◌, ap}
use Rattle.dl_kernel.specs.Steps.{with_goal}
use Rattle.dl_kernel.specs.Seen.{two_if}
use Rattle.dl_kernel.proofs.RuleLemmas.{two-last}
use Rattle.dl_kernel.proofs.rules.show_both.Goals as goal

pub returns : goal.returns
returns c =
    let s = c.args.sequent.now in
    let two = c.args.two.now in
    ap (λ o. two_if o c.swap_goal-fits.new.sequent) c.if_fits.ensures
    ∙ two-last (with_goal s two.left) (with_goal s two.right) c.swap_goal-fits.new.sequent c.in_ok-one.one c.swap_goal-fits.result
    c.in_ok-one.ensures c.swap_goal-fits.ensures.new c.swap_goal-fits.ensures.clean
