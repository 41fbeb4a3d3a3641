use Rattle.std.proofs.Common.{Some, IfOk, ◌≡◌, sym, ap, ◌∙◌, subst}
use Rattle.dl_term.specs.declared.syntax.Formula.{Eq}
use Rattle.dl_linear.specs.Seen.{seen_sides}
use Rattle.dl_kernel.specs.Lines.{refutes, linear_closes}
use Rattle.dl_kernel.proofs.LineFacts.{one-closes}
use Rattle.dl_kernel.proofs.certificates.is_refuted_by.Goals as goal

pub returns-in-Some : goal.returns-in-Some
returns-in-Some c =
    let facts = c.args.sequent.now.facts in
    let first = c.args.first.now in
    let equation = Eq c.in-Eq.left c.in-Eq.right in
    let same =
    ap (λ fs. linear_closes fs equation first (Some c.in-Some.second)) c.as_slice-facts.ensures
    ∙ ap (λ second. linear_closes facts equation first second) (sym c.in-Some.is)
    ∙ ap (λ shown. linear_closes facts shown first c.args.second.now) (sym c.in-Eq.is) in
    subst (λ right. IfOk c.close_equation.result (λ fine. fine ≡ right)) same c.close_equation.ensures

pub returns-in-None-second : goal.returns-in-None-second
returns-in-None-second c =
    let facts = c.args.sequent.now.facts in
    let shown = c.args.sequent.now.goal in
    let first = c.args.first.now in
    let same =
    ap (λ fs. refutes fs (seen_sides c.denied_sides.result) first) c.as_slice-facts.ensures
    ∙ ap (λ sides. refutes facts sides first) c.denied_sides.ensures
    ∙ one-closes facts shown first c.in_default.not-Eq
    ∙ ap (λ second. linear_closes facts shown first second) (sym c.in-None-second.is) in
    subst (λ right. IfOk c.refutes.result (λ fine. fine ≡ right)) same c.refutes.ensures
