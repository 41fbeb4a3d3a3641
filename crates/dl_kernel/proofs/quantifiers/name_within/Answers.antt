use Rattle.std.proofs.Common.{◌≡◌, Some, None, refl}
use Rattle.dl_kernel.proofs.EnterLemmas.{named-as, too_large-as}
use Rattle.dl_kernel.proofs.InstanceLemmas.{made-no_limit}
use Rattle.dl_kernel.proofs.quantifiers.name_within.Goals as goal

pub returns-in-Some-clause-made : goal.returns-in-Some-clause-made
returns-in-Some-clause-made c =
    let e : Some c.in-Some.one ≡ c.args.quantified.now = cc in
    named-as c.args.inst.now c.args.sequent.now c.args.sequent.now c.name_in.new.sequent c.args.name _ _ c.name_in.result refl e c.name_in.ensures.made

pub returns-in-Some-clause-limit : goal.returns-in-Some-clause-limit
returns-in-Some-clause-limit c =
    let e : Some c.in-Some.one ≡ c.args.quantified.now = cc in
    λ x. too_large-as c.args.inst.now c.args.sequent.now c.args.sequent.now c.name_in.new.sequent c.args.name _ _ refl e (c.name_in.ensures.limit x)

pub returns-in-None-clause-limit : goal.returns-in-None-clause-limit
returns-in-None-clause-limit c = made-no_limit _ None refl
