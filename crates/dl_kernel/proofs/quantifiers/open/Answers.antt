use Rattle.std.proofs.Common.{Err, sym, ◌∙◌, ap}
use Rattle.dl_kernel.specs.Parts.{as_universal}
use Rattle.dl_kernel.specs.Steps.{with_goal}
use Rattle.dl_kernel.proofs.StepLemmas.{not-entered}
use Rattle.dl_kernel.proofs.EnterLemmas.{step-failed, goal-clean, goal-entered, goal-not_entered, goal-past_limit}
use Rattle.dl_kernel.proofs.quantifiers.open.Goals as goal

pub returns-then-not-is_new : goal.returns-then-not-is_new
returns-then-not-is_new c =
    not-entered with_goal c.args.inst.now c.args.sequent.now c.args.sequent.now c.args.name (as_universal c.args.sequent.now.goal) (sym c.is_new.ensures ∙ c.if-not-is_new.true)

pub set_goal-requires : goal.set_goal-requires
set_goal-requires c = record {
  clean =
      goal-clean c.args.inst.now c.args.sequent.now c.name_goal.new.sequent c.args.name c.requires.clean (sym c.is_new.ensures ∙ c.if-not-is_new.false)
      c.in-Ok-Some.formula (rw c.in-Ok-Some.field-0-is at c.in-Ok-Some.ensures.made);
}

pub returns-in-Ok-Some : goal.returns-in-Ok-Some
returns-in-Ok-Some c =
    goal-entered c.args.inst.now c.args.sequent.now c.name_goal.new.sequent c.args.name c.requires.clean (sym c.is_new.ensures ∙ c.if-not-is_new.false)
    c.in-Ok-Some.formula c.set_goal.new.sequent c.set_goal.result (rw c.in-Ok-Some.field-0-is at c.in-Ok-Some.ensures.made) c.set_goal.ensures.new c.set_goal.ensures.clean

pub returns-in-Ok-None : goal.returns-in-Ok-None
returns-in-Ok-None c =
    goal-not_entered c.args.inst.now c.args.sequent.now c.name_goal.new.sequent c.args.name c.requires.clean (sym c.is_new.ensures ∙ c.if-not-is_new.false)
    (rw c.in-Ok-None.field-0-is at c.in-Ok-None.ensures.made) c.name_goal.new.sequent

pub returns-in-Err : goal.returns-in-Err
returns-in-Err c =
    step-failed c.in-Err.fault c.name_goal.new.sequent _
    (λ e. goal-past_limit c.args.inst.now c.args.sequent.now c.name_goal.new.sequent c.args.name c.requires.clean (sym c.is_new.ensures ∙ c.if-not-is_new.false) (c.in-Err.ensures.limit (ap (λ f. Err f) e)))
