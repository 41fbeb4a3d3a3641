use Rattle.std.proofs.Common.{◌∙◌, ap}
use Rattle.dl_term.specs.declared.syntax.Formula.{True}
use Rattle.dl_kernel.specs.Parts.{as_universal}
use Rattle.dl_kernel.specs.Steps.{with_goal}
use Rattle.dl_kernel.proofs.EnterLemmas.{named-as, too_large-as}
use Rattle.dl_kernel.proofs.quantifiers.name_goal.Goals as goal

pub returns-clause-made : goal.returns-clause-made
returns-clause-made c =
    named-as c.args.inst.now c.take_goal.new.sequent (with_goal c.args.sequent.now True) c.name_within-made.new.sequent c.args.name _ _ c.name_within-made.result
    c.take_goal.ensures.rest (c.into_universal-quantified.ensures ∙ ap as_universal c.take_goal.ensures.goal) c.name_within-made.ensures.made

pub returns-clause-limit : goal.returns-clause-limit
returns-clause-limit c = λ e.
    too_large-as c.args.inst.now c.take_goal.new.sequent (with_goal c.args.sequent.now True) c.name_within-made.new.sequent c.args.name _ _
    c.take_goal.ensures.rest (c.into_universal-quantified.ensures ∙ ap as_universal c.take_goal.ensures.goal) (c.name_within-made.ensures.limit e)
