use Rattle.std.proofs.Common.{◌&&◌, is_none, length, sym, ap, ◌∙◌}
use Rattle.dl_linear.specs.Rows.{verdict}
use Rattle.dl_linear.specs.Forms.{lines_from, are_narrow}
use Rattle.dl_linear.specs.Seen.{seen_sides}
use Rattle.dl_kernel.specs.Lines.{rows_used}
use Rattle.dl_kernel.proofs.LineFacts.{refutes-lines}
use Rattle.dl_kernel.proofs.certificates.refutes.Goals as goal

pub returns-in_ok-certificate-in-Some : goal.returns-in_ok-certificate-in-Some
returns-in_ok-certificate-in-Some c =
    let rows = rows_used c.args.certificate.now c.args.facts.now (seen_sides c.args.goal) in
    c.is_ok.ensures.value
    ∙ refutes-lines rows c.in-Some.lines c.in_ok-certificate-in-Some.certificate c.verify.result (sym c.in-Some.is ∙ c.in_ok-lines.ensures) c.verify.ensures.exact
    ∙ ap (λ cert. are_narrow rows && is_none (verdict (length (lines_from rows).atoms) (lines_from rows).rows cert)) c.in_ok-certificate-in-Some.ensures
