use Rattle.std.proofs.Common.{Some, IfOk, ◌≡◌, sym, ap, ◌∙◌, subst}
use Rattle.dl_linear.specs.Forms.{below}
use Rattle.dl_kernel.specs.Lines.{refutes}
use Rattle.dl_kernel.proofs.LineFacts.{first-fails, first-passes}
use Rattle.dl_kernel.proofs.certificates.close_equation.Goals as goal

pub returns-then-not-below : goal.returns-then-not-below
returns-then-not-below c =
    let first = c.in_ok-below.ensures ∙ ap (λ sides. refutes c.args.facts.now (Some sides) c.args.first.now) c.below.ensures in
    let second = refutes c.args.facts.now (Some (below c.args.right.now c.args.left.now)) c.args.second.now in
    first-fails (refutes c.args.facts.now (Some (below c.args.left.now c.args.right.now)) c.args.first.now) second (sym first ∙ c.if-not-below.true)

pub returns : goal.returns
returns c =
    let first = c.in_ok-below.ensures ∙ ap (λ sides. refutes c.args.facts.now (Some sides) c.args.first.now) c.below.ensures in
    let second = refutes c.args.facts.now (Some (below c.args.right.now c.args.left.now)) c.args.second.now in
    first-passes c.refutes-2.result (refutes c.args.facts.now (Some (below c.args.left.now c.args.right.now)) c.args.first.now) second (sym first ∙ c.if-not-below.false)
    (subst (λ sides. IfOk c.refutes-2.result (λ fine. fine ≡ refutes c.args.facts.now (Some sides) c.args.second.now)) c.below-2.ensures c.refutes-2.ensures)
