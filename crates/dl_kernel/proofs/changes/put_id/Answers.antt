use Rattle.std.proofs.Common.{◌≡◌, Some, sym}
use Rattle.dl_kernel.specs.Steps.{put_id}
use Rattle.dl_kernel.proofs.EnterLemmas.{made-as, oversized-as}
use Rattle.dl_kernel.proofs.changes.put_id.Goals as goal

pub returns-in-Some-right-clause-made : goal.returns-in-Some-right-clause-made
returns-in-Some-right-clause-made c =
    let left : Some c.in-Some.left ≡ c.args.left = cc in
    let right : Some c.in-Some-right.right ≡ c.args.right = cc in
    made-as c.put_message.result _ _ (λ i. put_id (left i) (right i) c.args.formula.now) c.put_message.ensures.made

pub returns-in-Some-right-clause-limit : goal.returns-in-Some-right-clause-limit
returns-in-Some-right-clause-limit c =
    let left : Some c.in-Some.left ≡ c.args.left = cc in
    let right : Some c.in-Some-right.right ≡ c.args.right = cc in
    oversized-as _ _ (λ i. put_id (left i) (right i) c.args.formula.now) c.put_message.ensures.limit
