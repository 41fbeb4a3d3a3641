use Rattle.std.proofs.Common.{Err, ◌∙◌, sym, ap}
use Rattle.std.specs.Option.{option_map}
use Rattle.dl_sequent.specs.Clean.{is_clean}
use Rattle.dl_model.specs.declared.sequent.Sequent.{Sequent}
use Rattle.dl_kernel.specs.Steps.{with_goal, one_left}
use Rattle.dl_kernel.proofs.CleanLemmas.{clean-true}
use Rattle.dl_kernel.proofs.RuleLemmas.{one-made, one-none}
use Rattle.dl_kernel.proofs.EnterLemmas.{step-failed, give-past_limit}
use Rattle.dl_kernel.proofs.quantifiers.give.Goals as goal

pub set_goal-requires : goal.set_goal-requires
set_goal-requires c = record { clean = ap is_clean c.in-Ok-Some.ensures.rest ∙ clean-true c.args.sequent.now c.requires.clean }

pub returns-in-Ok-Some : goal.returns-in-Ok-Some
returns-in-Ok-Some c =
    let put = with_goal c.args.sequent.now in
    one-made (put c.in-Ok-Some.formula) c.set_goal.new.sequent c.set_goal.result _
    (ap (λ o. one_left (option_map put o)) (sym (rw c.in-Ok-Some.field-0-is at c.in-Ok-Some.ensures.made)))
    (c.set_goal.ensures.new ∙ ap (λ (t : Sequent). with_goal t c.in-Ok-Some.formula) c.in-Ok-Some.ensures.rest) c.set_goal.ensures.clean

pub returns-in-Ok-None : goal.returns-in-Ok-None
returns-in-Ok-None c =
    one-none c.goal_instance.new.sequent _ (ap (λ o. one_left (option_map (with_goal c.args.sequent.now) o)) (sym (rw c.in-Ok-None.field-0-is at c.in-Ok-None.ensures.made)))

pub returns-in-Err : goal.returns-in-Err
returns-in-Err c =
    step-failed c.in-Err.fault c.goal_instance.new.sequent _
    (λ e. give-past_limit c.args.inst.now c.args.sequent.now c.args.what.now c.requires.clean (c.in-Err.ensures.limit (ap (λ f. Err f) e)))
