use Rattle.std.proofs.Common.{◌&&◌, sym, ap, ◌∙◌}
use Rattle.std.proofs.lemmas.List.{take_all}
use Rattle.dl_linear.specs.Rows.{made, sum_onto, no_sum}
use Rattle.dl_linear.specs.Columns.{all_made}
use Rattle.dl_linear.proofs.Parts.{at-place, sum-unequal, made-sum, sum-more}
use Rattle.dl_linear.proofs.verifier.+is_equal.Goals as goal

pub returns-then-not-is_equal : goal.returns-then-not-is_equal
returns-then-not-is_equal t c =
    let at = at-place c.as_slice-part-items.result.now c.loop-part.part-index c.part-item.result c.loop-part-test.true c.part-item.is in
    let no = sum-unequal c.args.rows.now no_sum c.as_slice-part-items.result.now c.loop-part.part-index c.part-item.result at (sym c.is_equal.ensures ∙ c.if-not-is_equal.true) in
    sym (ap (λ x. (made c.args.rows.now x).equal) c.in-Sum.is
    ∙ ap (λ row. row.equal) (made-sum c.args.rows.now c.in-Sum.parts)
    ∙ ap (λ ms. (sum_onto no_sum (all_made c.args.rows.now ms)).equal) (sym c.as_slice-part-items.ensures)
    ∙ no)

pub loop-part-preserved : goal.loop-part-preserved
loop-part-preserved t c =
    let at = at-place c.as_slice-part-items.result.now c.loop-part.part-index c.part-item.result c.loop-part-test.true c.part-item.is in
    ap (λ row. row.equal) (sum-more c.args.rows.now no_sum c.as_slice-part-items.result.now c.loop-part.part-index c.part-item.result at)
    ∙ (λ i. c.loop-part.invariant i && (sym c.is_equal.ensures ∙ c.if-not-is_equal.false) i)

pub returns-after-loop-part : goal.returns-after-loop-part
returns-after-loop-part t c =
    sym (ap (λ x. (made c.args.rows.now x).equal) c.in-Sum.is
    ∙ ap (λ row. row.equal) (made-sum c.args.rows.now c.in-Sum.parts)
    ∙ ap (λ ms. (sum_onto no_sum (all_made c.args.rows.now ms)).equal) (sym c.as_slice-part-items.ensures)
    ∙ ap (λ ms. (sum_onto no_sum (all_made c.args.rows.now ms)).equal) (sym (take_all c.loop-part.part-index c.as_slice-part-items.result.now c.loop-part-test.false))
    ∙ c.loop-part.invariant)
