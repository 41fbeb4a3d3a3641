use Rattle.std.proofs.Common.{pos, int_le, sym, ap, ◌∙◌, FitsSigned, w64, rules}
use Rattle.std.proofs.lemmas.Int.{to_z-of_z}
use Rattle.dl_linear.proofs.Parts.{not-zero}
use Rattle.std.specs.Ordering.{int_eq}
use Rattle.std.specs.Int.{int_rem_euclid}
use Rattle.dl_term.proofs.Quantifiers.{every_below-false}
use Rattle.dl_linear.specs.Rows.{made}
use Rattle.dl_linear.proofs.verifier.is_divisible.Goals as goal
use Rattle.dl_linear.proofs.Truth.{and-false}

pub returns-then-rem_euclid-ne0 : goal.returns-then-rem_euclid-ne0
returns-then-rem_euclid-ne0 c =
    let row = made c.args.rows.now c.args.cert.now in
    let e : FitsSigned w64 c.entry.result = search rules in
    let b : FitsSigned w64 c.args.divisor = search rules in
    let h = c.if-rem_euclid-ne0.true in
    let k = c.rem_euclid.ensures.value in
    let no = every_below-false c.loop-column.column c.args.width (λ j. int_eq (int_rem_euclid (row.coef j) c.args.divisor) (pos 0)) c.loop-column-test.true
    (not-zero c.rem_euclid.result _ (k ∙ (λ i. int_rem_euclid (to_z-of_z w64 c.entry.result e i) (to_z-of_z w64 c.args.divisor b i)) ∙ ap (λ z. int_rem_euclid z c.args.divisor) c.entry.ensures) h) in
    sym (and-false (int_le (pos 1) c.args.divisor) _ no)
