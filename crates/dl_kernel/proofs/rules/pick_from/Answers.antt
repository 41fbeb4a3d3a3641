use Rattle.std.proofs.Common.{Some, refl, sym, ◌∙◌, ap}
use Rattle.dl_kernel.specs.Steps.{pick_goal, only_clean}
use Rattle.dl_kernel.proofs.RuleLemmas.{goal-made}
use Rattle.dl_kernel.proofs.rules.pick_from.Goals as goal

pub returns-then-part-eq1 : goal.returns-then-part-eq1
returns-then-part-eq1 c =
    let two = c.args.two.now in
    goal-made c.args.sequent.now c.swap_goal.new.sequent two.left two.left c.swap_goal.result refl c.swap_goal.ensures.new c.swap_goal.ensures.clean
    ∙ ap (λ n. only_clean (pick_goal c.args.sequent.now n (Some two))) (sym c.if-part-eq1.true)

pub returns-then-part-eq2 : goal.returns-then-part-eq2
returns-then-part-eq2 c =
    let two = c.args.two.now in
    goal-made c.args.sequent.now c.swap_goal-then-part-eq2.new.sequent two.right two.right c.swap_goal-then-part-eq2.result refl c.swap_goal-then-part-eq2.ensures.new c.swap_goal-then-part-eq2.ensures.clean
    ∙ ap (λ n. only_clean (pick_goal c.args.sequent.now n (Some two))) (sym c.if-part-eq2.true)
