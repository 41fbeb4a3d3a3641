use Rattle.std.proofs.Common.{refl}
use Rattle.dl_kernel.proofs.EnterLemmas.{named-as, too_large-as}
use Rattle.dl_kernel.proofs.InstanceLemmas.{memory-no_limit}
use Rattle.dl_kernel.proofs.quantifiers.name_fact.Goals as goal

pub returns-in-Ok-clause-made : goal.returns-in-Ok-clause-made
returns-in-Ok-clause-made c =
    named-as c.args.inst.now c.args.sequent.now c.args.sequent.now c.name_within-made.new.sequent c.args.name _ _ c.name_within-made.result refl c.in-Ok.ensures c.name_within-made.ensures.made

pub returns-in-Ok-clause-limit : goal.returns-in-Ok-clause-limit
returns-in-Ok-clause-limit c =
    λ x. too_large-as c.args.inst.now c.args.sequent.now c.args.sequent.now c.name_within-made.new.sequent c.args.name _ _ refl c.in-Ok.ensures (c.name_within-made.ensures.limit x)

pub returns-in-Err-clause-limit : goal.returns-in-Err-clause-limit
returns-in-Err-clause-limit c = memory-no_limit _ refl
