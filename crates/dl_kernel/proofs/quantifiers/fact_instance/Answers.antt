use Rattle.std.proofs.Common.{◌≡◌, Some, None, refl}
use Rattle.dl_kernel.specs.Parts.{as_universal}
use Rattle.dl_kernel.specs.Steps.{part_of, instance}
use Rattle.dl_kernel.proofs.InstanceLemmas.{instance-made, instance-limit, instance-none, made-no_limit, memory-no_limit}
use Rattle.dl_kernel.proofs.quantifiers.fact_instance.Goals as goal

pub returns-in-Ok-Some-clause-made : goal.returns-in-Ok-Some-clause-made
returns-in-Ok-Some-clause-made c =
    let e : Some c.in-Ok-Some.quantified ≡ part_of as_universal c.args.sequent.now c.args.hyp = rw c.in-Ok-Some.field-0-is at c.in-Ok-Some.ensures in
    instance-made c.instance-made.result (instance c.args.inst.now c.args.sequent.now c.args.what.now) c.in-Ok-Some.quantified (part_of as_universal c.args.sequent.now c.args.hyp) e c.instance-made.ensures.made

pub returns-in-Ok-Some-clause-limit : goal.returns-in-Ok-Some-clause-limit
returns-in-Ok-Some-clause-limit c =
    let e : Some c.in-Ok-Some.quantified ≡ part_of as_universal c.args.sequent.now c.args.hyp = rw c.in-Ok-Some.field-0-is at c.in-Ok-Some.ensures in
    instance-limit (instance c.args.inst.now c.args.sequent.now c.args.what.now) c.in-Ok-Some.quantified (part_of as_universal c.args.sequent.now c.args.hyp) e c.instance-made.ensures.limit

pub returns-in-Ok-None-clause-made : goal.returns-in-Ok-None-clause-made
returns-in-Ok-None-clause-made c =
    let e : None ≡ part_of as_universal c.args.sequent.now c.args.hyp = rw c.in-Ok-None.field-0-is at c.in-Ok-None.ensures in
    instance-none (instance c.args.inst.now c.args.sequent.now c.args.what.now) (part_of as_universal c.args.sequent.now c.args.hyp) e

pub returns-in-Ok-None-clause-limit : goal.returns-in-Ok-None-clause-limit
returns-in-Ok-None-clause-limit c = made-no_limit _ None refl

pub returns-in-Err-clause-made : goal.returns-in-Err-clause-made
returns-in-Err-clause-made c = tt

pub returns-in-Err-clause-limit : goal.returns-in-Err-clause-limit
returns-in-Err-clause-limit c = memory-no_limit _ refl
