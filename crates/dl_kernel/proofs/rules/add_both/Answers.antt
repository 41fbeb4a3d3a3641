use Rattle.std.proofs.Common.{refl, sym, ◌∙◌, ap}
use Rattle.dl_sequent.specs.Clean.{is_clean}
use Rattle.dl_kernel.specs.declared.parts.Two.{Two}
use Rattle.dl_kernel.specs.Steps.{with_fact}
use Rattle.dl_kernel.proofs.CleanLemmas.{unclean-added}
use Rattle.dl_kernel.proofs.RuleLemmas.{added, one-refused}
use Rattle.dl_kernel.proofs.rules.add_both.Goals as goal

pub returns-then-fits : goal.returns-then-fits
returns-then-fits c =
    let right = c.take_right.ensures.part ∙ ap (λ (t : Two). t.right) c.take_left.ensures.rest in
    let first = c.in_ok-fits.ensures.new ∙ ap (with_fact c.args.sequent.now c.args.left) c.take_left.ensures.part in
    added c.add_fact-then-fits.result c.add_fact-then-fits.new.sequent _ _ (λ i. with_fact (first i) c.args.right (right i)) c.add_fact-then-fits.ensures.new c.add_fact-then-fits.ensures.clean

pub returns-else-fits : goal.returns-else-fits
returns-else-fits c =
    let s = with_fact c.args.sequent.now c.args.left c.args.two.now.left in
    let first = c.in_ok-fits.ensures.new ∙ ap (with_fact c.args.sequent.now c.args.left) c.take_left.ensures.part in
    one-refused (with_fact s c.args.right c.args.two.now.right) c.add_fact.new.sequent _ refl
    (unclean-added s c.args.right c.args.two.now.right (sym (ap is_clean first) ∙ sym c.in_ok-fits.ensures.clean ∙ c.if-fits.false))
