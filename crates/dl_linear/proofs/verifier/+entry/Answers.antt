use Rattle.std.proofs.Common.{◌≡◌, pos, None, Some, sym, ap, ◌∙◌, subst, rules, FitsSigned, w64}
use Rattle.dl_linear.specs.declared.certificate.Certificate.{the_lemmas}
use Rattle.dl_linear.specs.Rows.{made, fault}
use Rattle.dl_linear.specs.Columns.{all_made, fault_of, in_column, column_sum}
use Rattle.std.proofs.lemmas.Int.{to_z-of_z}
use Rattle.dl_linear.specs.declared.certificate.Certificate.{Sum}
use Rattle.dl_linear.proofs.Parts.{at-place, fault_of-at, fault-parts}
use Rattle.dl_linear.proofs.Checks.{sum-column, next-column, next-invariant, no-column}
use Rattle.dl_linear.proofs.verifier.+entry.Goals as goal

pub entry-summed-requires : goal.entry-summed-requires
entry-summed-requires t c =
    let parts = fault-parts c.args.width c.args.rows.now c.in-Sum.parts (subst (λ x. fault c.args.width c.args.rows.now x ≡ None) c.in-Sum.is c.requires.fault) in
    let none = subst (λ ms. fault_of c.args.width c.args.rows.now ms ≡ None) (sym c.as_slice.ensures) parts.0 in
    (search (rules, the_lemmas), (none, c.requires.column))

pub summed-entry-next-requires : goal.summed-entry-next-requires
summed-entry-next-requires t c =
    let at = at-place c.args.parts.now c.loop-part.part-index c.part-item.result c.loop-part-test.true c.part-item.is in
    (search (rules, the_lemmas), (fault_of-at c.args.width c.args.rows.now c.args.parts.now c.loop-part.part-index c.part-item.result c.requires.parts at, c.requires.column))

pub entry-returns-in-Some : goal.entry-returns-in-Some
entry-returns-in-Some t c =
    let rows = c.args.rows.now in
    let right = subst (λ x. fault c.args.width rows x ≡ None) c.in-Sum.is c.requires.fault in
    let whole = sum-column c.args.width rows c.in-Sum.parts c.args.column right c.requires.column in
    let got : Some c.in-Some.sum ≡ Some (in_column c.args.column (made rows (Sum c.in-Sum.parts))) =
    sym c.in-Some.is ∙ c.summed.ensures ∙ ap (λ ms. column_sum c.args.column (pos 0) (all_made rows ms)) c.as_slice.ensures ∙ whole in
    let is : c.in-Some.sum ≡ in_column c.args.column (made rows (Sum c.in-Sum.parts)) = cc in
    let f : FitsSigned w64 c.in-Some.sum = search rules in
    to_z-of_z w64 _ f ∙ is ∙ ap (λ x. in_column c.args.column (made rows x)) (sym c.in-Sum.is)

pub entry-returns-in-None : goal.entry-returns-in-None
entry-returns-in-None t c =
    let rows = c.args.rows.now in
    let right = subst (λ x. fault c.args.width rows x ≡ None) c.in-Sum.is c.requires.fault in
    let whole = sum-column c.args.width rows c.in-Sum.parts c.args.column right c.requires.column in
    let got : None ≡ Some (in_column c.args.column (made rows (Sum c.in-Sum.parts))) =
    sym c.in-None.is ∙ c.summed.ensures ∙ ap (λ ms. column_sum c.args.column (pos 0) (all_made rows ms)) c.as_slice.ensures ∙ whole in
    cc

pub summed-returns-in-None : goal.summed-returns-in-None
summed-returns-in-None t c =
    let part = c.part-item.result in
    let at = at-place c.args.parts.now c.loop-part.part-index part c.loop-part-test.true c.part-item.is in
    let f : FitsSigned w64 part.factor = search rules in
    let g : FitsSigned w64 c.entry-next.result = search rules in
    let next = next-column c.args.rows.now c.args.parts.now c.loop-part.part-index part c.args.column c.loop-part.sum-bits c.entry-next.result c.add_multiple.result c.loop-part.invariant at f g c.entry-next.ensures c.add_multiple.ensures in
    sym (no-column c.args.rows.now c.args.parts.now c.loop-part.part-index c.args.column (next ∙ c.in-None.is))

pub summed-loop-part-preserved : goal.summed-loop-part-preserved
summed-loop-part-preserved t c =
    let part = c.part-item.result in
    let at = at-place c.args.parts.now c.loop-part.part-index part c.loop-part-test.true c.part-item.is in
    let f : FitsSigned w64 part.factor = search rules in
    let g : FitsSigned w64 c.entry-next.result = search rules in
    let h : FitsSigned w64 c.in-Some.total = search rules in
    let next = next-column c.args.rows.now c.args.parts.now c.loop-part.part-index part c.args.column c.loop-part.sum-bits c.entry-next.result c.add_multiple.result c.loop-part.invariant at f g c.entry-next.ensures c.add_multiple.ensures in
    next-invariant c.args.rows.now c.args.parts.now c.loop-part.part-index c.args.column c.in-Some.total h (next ∙ c.in-Some.is)
