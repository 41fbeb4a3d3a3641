use Rattle.std.proofs.Common.{◌≡◌, true, pos}
use Rattle.std.specs.Int.{int_rem_euclid}
use Rattle.std.specs.Ordering.{int_eq}
use Rattle.dl_term.specs.Meaning.{every_below}
use Rattle.dl_linear.specs.Rows.{made}
use Rattle.dl_linear.proofs.verifier.is_divisible.Given as goal

abbrev pub invariant-loop-column : goal.invariant-loop-column
invariant-loop-column l = every_below l.column (λ j. int_eq (int_rem_euclid ((made l.rows l.cert).coef j) l.divisor) (pos 0)) ≡ true
