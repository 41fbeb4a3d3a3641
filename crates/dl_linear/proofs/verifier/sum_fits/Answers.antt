use Rattle.std.proofs.Common.{pos, ◌&&◌, is_some, sym, ap, ◌∙◌}
use Rattle.dl_term.proofs.Quantifiers.{every_below-false}
use Rattle.dl_linear.specs.declared.column.Column.TheVariants.{Atom, Bound}
use Rattle.dl_linear.specs.Columns.{all_made, column_sum}
use Rattle.dl_linear.proofs.verifier.sum_fits.Goals as goal

pub returns-then-is_none : goal.returns-then-is_none
returns-then-is_none c =
    let parts = all_made c.args.rows.now c.args.parts.now in
    let wide = sym (ap is_some c.summed.ensures) ∙ c.if-is_none.ensures in
    let no = every_below-false c.loop-column.column c.args.width (λ j. is_some (column_sum (Atom j) (pos 0) parts)) c.loop-column-test.true wide in
    sym (ap (λ b. b && is_some (column_sum Bound (pos 0) parts)) no)
