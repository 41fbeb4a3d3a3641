use Rattle.std.proofs.Common.{refl, sym, ◌∙◌, ap}
use Rattle.dl_sequent.specs.Clean.{is_clean}
use Rattle.dl_kernel.specs.Steps.{with_fact, with_goal}
use Rattle.dl_kernel.proofs.CleanLemmas.{unclean-added}
use Rattle.dl_kernel.proofs.RuleLemmas.{added, one-refused}
use Rattle.dl_kernel.proofs.rules.suppose.Goals as goal

pub returns-then-swap_goal : goal.returns-then-swap_goal
returns-then-swap_goal c =
    let shown = c.swap_goal.ensures.new in
    added c.add_fact.result c.add_fact.new.sequent _ _ (λ i. with_fact (shown i) c.args.name (c.take_left.ensures.part i)) c.add_fact.ensures.new c.add_fact.ensures.clean

pub returns-else-swap_goal : goal.returns-else-swap_goal
returns-else-swap_goal c =
    let s = with_goal c.args.sequent.now c.args.two.now.right in
    one-refused (with_fact s c.args.name c.args.two.now.left) c.swap_goal.new.sequent _ refl
    (unclean-added s c.args.name c.args.two.now.left (sym (ap is_clean c.swap_goal.ensures.new) ∙ sym c.swap_goal.ensures.clean ∙ c.if-swap_goal.false))
