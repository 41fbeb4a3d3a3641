use Rattle.std.proofs.Common.{◌+◌, ◌++◌, ◌∷◌, [], ap, sym, ◌∙◌, arith}
use Rattle.dl_verdict.proofs.Spots.{range-more}
use Rattle.dl_verdict.proofs.spare.numbers.Goals as goal

pub loop-n-preserved : goal.loop-n-preserved
loop-n-preserved c =
    let first = c.args.first in
    let n = c.loop-n.n in
    c.in_ok-push.ensures.ok ∙ (ap (λ xs. xs ++ (first + n) ∷ []) c.loop-n.invariant ∙ sym (range-more first n (first + n) (omega arith)))
