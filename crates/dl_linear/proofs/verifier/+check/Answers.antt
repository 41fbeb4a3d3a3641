use Rattle.std.proofs.Common.{sym, ap, ◌∙◌}
use Rattle.dl_linear.specs.Rows.{fault, sum_fault, no_sum, first_of, answer}
use Rattle.dl_linear.specs.Columns.{fault_of, all_made}
use Rattle.dl_linear.proofs.Parts.{at-place, fault-sum, fault_of-first, fault_of-more, answered-ok, answered-err}
use Rattle.dl_linear.proofs.verifier.+check.Goals as goal

pub check-returns-in-Ok : goal.check-returns-in-Ok
check-returns-in-Ok t c =
    let right = answered-ok (fault_of c.args.width c.args.rows.now c.as_slice-parts.result.now) (sym c.check_parts.ensures ∙ c.in-Ok.is) in
    c.check_sum.ensures
    ∙ ap (λ f. answer (first_of f (sum_fault c.args.width no_sum (all_made c.args.rows.now c.as_slice-parts.result.now)))) (sym right)
    ∙ ap (λ ms. answer (first_of (fault_of c.args.width c.args.rows.now ms) (sum_fault c.args.width no_sum (all_made c.args.rows.now ms)))) c.as_slice-parts.ensures
    ∙ ap answer (sym (fault-sum c.args.width c.args.rows.now c.in-Sum.parts))
    ∙ ap (λ x. answer (fault c.args.width c.args.rows.now x)) (sym c.in-Sum.is)

pub check-returns-in-Err : goal.check-returns-in-Err
check-returns-in-Err t c =
    let wrong = answered-err (fault_of c.args.width c.args.rows.now c.as_slice-parts.result.now) c.in-Err.fault (sym c.check_parts.ensures ∙ c.in-Err.is) in
    ap (λ f. answer (first_of f (sum_fault c.args.width no_sum (all_made c.args.rows.now c.as_slice-parts.result.now)))) (sym wrong)
    ∙ ap (λ ms. answer (first_of (fault_of c.args.width c.args.rows.now ms) (sum_fault c.args.width no_sum (all_made c.args.rows.now ms)))) c.as_slice-parts.ensures
    ∙ ap answer (sym (fault-sum c.args.width c.args.rows.now c.in-Sum.parts))
    ∙ ap (λ x. answer (fault c.args.width c.args.rows.now x)) (sym c.in-Sum.is)

pub check_parts-returns-in-Err : goal.check_parts-returns-in-Err
check_parts-returns-in-Err t c =
    let at = at-place c.args.parts.now c.loop-part.part-index c.part-item.result c.loop-part-test.true c.part-item.is in
    let wrong = answered-err (fault c.args.width c.args.rows.now c.part-item.result.certificate) c.in-Err.fault (sym c.check.ensures ∙ c.in-Err.is) in
    ap answer (sym (fault_of-first c.args.width c.args.rows.now c.args.parts.now c.loop-part.part-index c.part-item.result c.in-Err.fault c.loop-part.invariant at wrong))

pub check_parts-loop-part-preserved : goal.check_parts-loop-part-preserved
check_parts-loop-part-preserved t c =
    let at = at-place c.args.parts.now c.loop-part.part-index c.part-item.result c.loop-part-test.true c.part-item.is in
    let right = answered-ok (fault c.args.width c.args.rows.now c.part-item.result.certificate) (sym c.check.ensures ∙ c.in-Ok.is) in
    fault_of-more c.args.width c.args.rows.now c.args.parts.now c.loop-part.part-index c.part-item.result c.loop-part.invariant at right
