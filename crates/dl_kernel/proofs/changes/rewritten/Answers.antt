use Rattle.dl_kernel.proofs.EnterLemmas.{made-as, oversized-as}
use Rattle.dl_kernel.proofs.ChangeLemmas.{rewritten-one, rewritten-apart}
use Rattle.dl_kernel.proofs.changes.rewritten.Goals as goal

pub returns-then-are_one-clause-made : goal.returns-then-are_one-clause-made
returns-then-are_one-clause-made c =
    made-as c.put_id.result _ _
    (rewritten-one c.args.sequent.now c.args.equation.now c.args.formula.now c.id_of-left.result c.id_of-right.result c.are_one.result c.id_of-left.ensures c.id_of-right.ensures c.are_one.ensures c.if-are_one.true)
    c.put_id.ensures.made

pub returns-then-are_one-clause-limit : goal.returns-then-are_one-clause-limit
returns-then-are_one-clause-limit c =
    oversized-as _ _
    (rewritten-one c.args.sequent.now c.args.equation.now c.args.formula.now c.id_of-left.result c.id_of-right.result c.are_one.result c.id_of-left.ensures c.id_of-right.ensures c.are_one.ensures c.if-are_one.true)
    c.put_id.ensures.limit

pub returns-else-are_one-clause-made : goal.returns-else-are_one-clause-made
returns-else-are_one-clause-made c =
    made-as c.put_term.result _ _
    (rewritten-apart c.args.sequent.now c.args.equation.now c.args.formula.now c.id_of-left.result c.id_of-right.result c.are_one.result c.id_of-left.ensures c.id_of-right.ensures c.are_one.ensures c.if-are_one.false)
    c.put_term.ensures.made

pub returns-else-are_one-clause-limit : goal.returns-else-are_one-clause-limit
returns-else-are_one-clause-limit c =
    oversized-as _ _
    (rewritten-apart c.args.sequent.now c.args.equation.now c.args.formula.now c.id_of-left.result c.id_of-right.result c.are_one.result c.id_of-left.ensures c.id_of-right.ensures c.are_one.ensures c.if-are_one.false)
    c.put_term.ensures.limit
