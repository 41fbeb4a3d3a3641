use Rattle.std.proofs.Common.{◌≡◌, true, pos, is_some}
use Rattle.dl_term.specs.Meaning.{every_below}
use Rattle.dl_linear.specs.declared.column.Column.TheVariants.{Atom}
use Rattle.dl_linear.specs.Columns.{all_made, column_sum}
use Rattle.dl_linear.proofs.verifier.sum_fits.Given as goal

abbrev pub invariant-loop-column : goal.invariant-loop-column
invariant-loop-column l = every_below l.column (λ j. is_some (column_sum (Atom j) (pos 0) (all_made l.rows l.parts))) ≡ true
