use Rattle.std.proofs.Common.{Some, ◌-ℤ◌, ◌∙◌}
use Rattle.dl_linear.specs.Forms.{form, form_fits}
use Rattle.dl_linear.specs.Columns.{both_narrow}
use Rattle.dl_linear.proofs.Reading.{both-if}
use Rattle.dl_linear.proofs.linearizer.coefficient.Goals as goal

pub returns : goal.returns
returns c =
    let left = c.args.sides.left.now in
    let right = c.args.sides.right.now in
    let column = Some c.args.atom.now in
    c.subtract.ensures
    ∙ (λ i. both_narrow (λ x y. x -ℤ y) (c.read_form.ensures i) (c.read_form-2.ensures i))
    ∙ both-if (λ x y. x -ℤ y) (form_fits column left) (form_fits column right) (form column left) (form column right)
