use Rattle.std.proofs.Common.{◌≡◌, Some, None, ap}
use Rattle.dl_kernel.specs.Parts.{as_equation}
use Rattle.dl_kernel.specs.Steps.{part_of, target, rewrite_by}
use Rattle.dl_kernel.proofs.EnterLemmas.{made-as, oversized-as}
use Rattle.dl_kernel.proofs.changes.rewritten_target.Goals as goal

pub returns-in-Ok-Some-clause-made : goal.returns-in-Ok-Some-clause-made
returns-in-Ok-Some-clause-made c =
    let e : Some c.in-Ok-Some.equation ≡ part_of as_equation c.args.sequent.now c.args.hyp = rw c.in-Ok-Some.field-0-is at c.in-Ok-Some.ensures in
    made-as c.rewritten_at.result _ _ (λ i. rewrite_by c.args.sequent.now (e i) (c.target_of.ensures i)) c.rewritten_at.ensures.made

pub returns-in-Ok-Some-clause-limit : goal.returns-in-Ok-Some-clause-limit
returns-in-Ok-Some-clause-limit c =
    let e : Some c.in-Ok-Some.equation ≡ part_of as_equation c.args.sequent.now c.args.hyp = rw c.in-Ok-Some.field-0-is at c.in-Ok-Some.ensures in
    oversized-as _ _ (λ i. rewrite_by c.args.sequent.now (e i) (c.target_of.ensures i)) c.rewritten_at.ensures.limit

pub returns-in-Ok-None-clause-made : goal.returns-in-Ok-None-clause-made
returns-in-Ok-None-clause-made c =
    let e : None ≡ part_of as_equation c.args.sequent.now c.args.hyp = rw c.in-Ok-None.field-0-is at c.in-Ok-None.ensures in
    ap (λ o. rewrite_by c.args.sequent.now o (target c.args.sequent.now c.args.hyp c.args.at)) e

pub returns-in-Ok-None-clause-limit : goal.returns-in-Ok-None-clause-limit
returns-in-Ok-None-clause-limit c = λ e. cc

pub returns-in-Err-clause-limit : goal.returns-in-Err-clause-limit
returns-in-Err-clause-limit c = λ e. cc
