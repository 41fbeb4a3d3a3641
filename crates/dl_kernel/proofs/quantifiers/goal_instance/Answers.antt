use Rattle.std.proofs.Common.{◌≡◌, Some, None, refl, ◌∙◌, ap}
use Rattle.dl_kernel.specs.Parts.{as_existential}
use Rattle.dl_kernel.specs.Steps.{instance}
use Rattle.dl_kernel.proofs.EnterLemmas.{made-as, oversized-as}
use Rattle.dl_kernel.proofs.InstanceLemmas.{instance-made, instance-limit, instance-none, goal-instance, made-no_limit}
use Rattle.dl_kernel.proofs.quantifiers.goal_instance.Goals as goal

pub returns-in-Some-clause-made : goal.returns-in-Some-clause-made
returns-in-Some-clause-made c =
    let s = c.args.sequent.now in
    let e : Some c.in-Some.quantified ≡ as_existential s.goal = c.in-Some.ensures ∙ ap as_existential c.take_goal.ensures.goal in
    instance-made c.instance-made.result (instance c.args.inst.now s c.args.what.now) c.in-Some.quantified (as_existential s.goal) e
    (made-as c.instance-made.result (instance c.args.inst.now c.take_goal.new.sequent c.args.what.now c.in-Some.quantified) (instance c.args.inst.now s c.args.what.now c.in-Some.quantified)
    (goal-instance c.args.inst.now s c.take_goal.new.sequent c.args.what.now c.in-Some.quantified c.take_goal.ensures.rest) c.instance-made.ensures.made)

pub returns-in-Some-clause-limit : goal.returns-in-Some-clause-limit
returns-in-Some-clause-limit c =
    let s = c.args.sequent.now in
    let e : Some c.in-Some.quantified ≡ as_existential s.goal = c.in-Some.ensures ∙ ap as_existential c.take_goal.ensures.goal in
    instance-limit (instance c.args.inst.now s c.args.what.now) c.in-Some.quantified (as_existential s.goal) e
    (oversized-as (instance c.args.inst.now c.take_goal.new.sequent c.args.what.now c.in-Some.quantified) (instance c.args.inst.now s c.args.what.now c.in-Some.quantified)
    (goal-instance c.args.inst.now s c.take_goal.new.sequent c.args.what.now c.in-Some.quantified c.take_goal.ensures.rest) c.instance-made.ensures.limit)

pub returns-in-Some-clause-rest : goal.returns-in-Some-clause-rest
returns-in-Some-clause-rest c = c.take_goal.ensures.rest

pub returns-in-None-clause-made : goal.returns-in-None-clause-made
returns-in-None-clause-made c =
    let s = c.args.sequent.now in
    let e : None ≡ as_existential s.goal = c.in-None.ensures ∙ ap as_existential c.take_goal.ensures.goal in
    instance-none (instance c.args.inst.now s c.args.what.now) (as_existential s.goal) e

pub returns-in-None-clause-limit : goal.returns-in-None-clause-limit
returns-in-None-clause-limit c = made-no_limit _ None refl

pub returns-in-None-clause-rest : goal.returns-in-None-clause-rest
returns-in-None-clause-rest c = c.take_goal.ensures.rest
