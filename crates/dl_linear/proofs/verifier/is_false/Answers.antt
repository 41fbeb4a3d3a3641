use Rattle.std.proofs.Common.{pos, ◌&&◌, int_lt, sym, ap}
use Rattle.std.specs.Ordering.{int_eq}
use Rattle.dl_term.proofs.Quantifiers.{every_below-false}
use Rattle.dl_linear.specs.Rows.{made}
use Rattle.dl_linear.proofs.Parts.{not-zero}
use Rattle.dl_linear.proofs.verifier.is_false.Goals as goal

pub returns-then-entry-ne0 : goal.returns-then-entry-ne0
returns-then-entry-ne0 c =
    let row = made c.args.rows.now c.args.cert.now in
    let h = c.if-entry-ne0.true in
    let no = every_below-false c.loop-column.column c.args.width (λ j. int_eq (row.coef j) (pos 0)) c.loop-column-test.true (not-zero c.entry.result _ c.entry.ensures h) in
    sym (ap (λ b. b && int_lt row.bound (pos 0)) no)
