use Rattle.std.proofs.Common.{Some, if◌then◌else◌, take, drop, sym, ap, ◌∙◌}
use Rattle.dl_linear.specs.declared.certificate.CertFault.TheVariants.{TooWide}
use Rattle.dl_linear.specs.Rows.{sum_fault, sum_onto, no_sum, answer}
use Rattle.dl_linear.specs.Columns.{all_made}
use Rattle.dl_linear.proofs.Parts.{fault_of-take}
use Rattle.dl_linear.proofs.Checks.{sum-checked, sum-negative, sum-done}
use Rattle.dl_linear.proofs.verifier.check_sum.Goals as goal

pub sum_fits-requires : goal.sum_fits-requires
sum_fits-requires c = fault_of-take c.args.width c.args.rows.now c.args.parts.now c.before_negative-end.result c.requires

pub returns-then-not-sum_fits : goal.returns-then-not-sum_fits
returns-then-not-sum_fits c =
    let rows = c.args.rows.now in
    let parts = c.args.parts.now in
    let end = c.before_negative-end.result in
    let checked = sum-checked c.args.width rows parts end c.sum_fits.result c.before_negative-end.ensures.before c.sum_fits.ensures in
    sym (ap answer (checked ∙ ap (λ fit. if fit then sum_fault c.args.width (sum_onto no_sum (take end (all_made rows parts))) (drop end (all_made rows parts)) else Some TooWide) c.if-not-sum_fits.true))

pub returns-then-end-parts : goal.returns-then-end-parts
returns-then-end-parts c =
    let rows = c.args.rows.now in
    let parts = c.args.parts.now in
    let end = c.before_negative-end.result in
    let checked = sum-checked c.args.width rows parts end c.sum_fits.result c.before_negative-end.ensures.before c.sum_fits.ensures in
    sym (ap answer (checked
    ∙ ap (λ fit. if fit then sum_fault c.args.width (sum_onto no_sum (take end (all_made rows parts))) (drop end (all_made rows parts)) else Some TooWide) c.if-not-sum_fits.false
    ∙ sum-negative c.args.width (sum_onto no_sum (take end (all_made rows parts))) rows parts end c.if-end-parts.true c.before_negative-end.ensures.there))

pub returns-else-end-parts : goal.returns-else-end-parts
returns-else-end-parts c =
    let rows = c.args.rows.now in
    let parts = c.args.parts.now in
    let end = c.before_negative-end.result in
    let checked = sum-checked c.args.width rows parts end c.sum_fits.result c.before_negative-end.ensures.before c.sum_fits.ensures in
    sym (ap answer (checked
    ∙ ap (λ fit. if fit then sum_fault c.args.width (sum_onto no_sum (take end (all_made rows parts))) (drop end (all_made rows parts)) else Some TooWide) c.if-not-sum_fits.false
    ∙ sum-done c.args.width (sum_onto no_sum (take end (all_made rows parts))) rows parts end c.if-end-parts.false))
