use Rattle.std.proofs.Common.{None, ◌-ℤ◌, FitsSigned, w64, rules, sym, ◌∙◌}
use Rattle.std.proofs.lemmas.Int.{to_z-of_z}
use Rattle.dl_linear.specs.Forms.{form, form_fits}
use Rattle.dl_linear.specs.Columns.{narrow}
use Rattle.dl_linear.proofs.Reading.{bound-if}
use Rattle.dl_linear.proofs.linearizer.bound.Goals as goal

pub returns : goal.returns
returns c =
    let left = c.args.sides.left.now in
    let right = c.args.sides.right.now in
    let f : FitsSigned w64 c.in_ok-right.right = search rules in
    let g : FitsSigned w64 c.in_ok-left.left = search rules in
    let h : FitsSigned w64 c.args.sides.gap = search rules in
    c.less_both.ensures
    ∙ (λ i. narrow (to_z-of_z w64 c.in_ok-right.right f i -ℤ to_z-of_z w64 c.in_ok-left.left g i -ℤ to_z-of_z w64 c.args.sides.gap h i))
    ∙ bound-if (form_fits None left) (form_fits None right) (form None left) (form None right) c.args.sides.gap c.in_ok-left.left c.in_ok-right.right (sym c.in_ok-left.ensures) (sym c.in_ok-right.ensures)
