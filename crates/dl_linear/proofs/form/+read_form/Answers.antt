use Rattle.std.proofs.Common.{Some, ◌+ℤ◌, ◌-ℤ◌, ◌*ℤ◌, FitsSigned, w64, rules, sym, ap, ◌∙◌}
use Rattle.std.proofs.lemmas.Int.{to_z-of_z}
use Rattle.std.specs.Option.{option_copied}
use Rattle.dl_linear.specs.Forms.{constant}
use Rattle.dl_linear.specs.Columns.{both_narrow, narrow_form}
use Rattle.dl_linear.proofs.Reading.{form-add, form-sub, form-times, form-times-right, form-atom}
use Rattle.dl_linear.proofs.form.+read_form.Goals as goal

pub returns-in-Add : goal.returns-in-Add
returns-in-Add t c =
    let column = option_copied c.args.column in
    let left = c.read_form.ensures ∙ ap (narrow_form column) c.get.ensures in
    let right = c.read_form-in-Add.ensures ∙ ap (narrow_form column) c.get-in-Add.ensures in
    c.add.ensures ∙ (λ i. both_narrow (λ x y. x +ℤ y) (left i) (right i)) ∙ form-add column c.in-Add.left c.in-Add.right ∙ ap (narrow_form column) (sym c.in-Add.is)

pub returns-in-Sub : goal.returns-in-Sub
returns-in-Sub t c =
    let column = option_copied c.args.column in
    let left = c.read_form-in-Sub.ensures ∙ ap (narrow_form column) c.get-in-Sub.ensures in
    let right = c.read_form-in-Sub-2.ensures ∙ ap (narrow_form column) c.get-in-Sub-2.ensures in
    c.subtract.ensures ∙ (λ i. both_narrow (λ x y. x -ℤ y) (left i) (right i)) ∙ form-sub column c.in-Sub.left c.in-Sub.right ∙ ap (narrow_form column) (sym c.in-Sub.is)

pub returns-in-Some-default : goal.returns-in-Some-default
returns-in-Some-default t c =
    let column = option_copied c.args.column in
    let f : FitsSigned w64 c.in-Some-default.factor = search rules in
    let number = c.read_form-in-Some-default.ensures ∙ ap (narrow_form column) c.get-in-Some-default.ensures in
    let is = sym (c.in-Some-default.ensures ∙ ap constant c.get-in-Mul.ensures) in
    c.multiply.ensures
    ∙ (λ i. both_narrow (λ x y. x *ℤ y) (Some (to_z-of_z w64 c.in-Some-default.factor f i)) (number i))
    ∙ form-times column c.in-Mul.left c.in-Mul.right c.in-Some-default.factor is
    ∙ ap (narrow_form column) (sym c.in-Mul.is)

pub returns-in-None-Some : goal.returns-in-None-Some
returns-in-None-Some t c =
    let column = option_copied c.args.column in
    let f : FitsSigned w64 c.in-None-Some.factor = search rules in
    let number = c.read_form-in-None-Some.ensures ∙ ap (narrow_form column) c.get-in-None-Some.ensures in
    let none = sym (c.in-None-Some.ensures ∙ ap constant c.get-in-Mul.ensures) in
    let is = sym (c.in-None-Some.ensures' ∙ ap constant c.get-in-Mul-2.ensures) in
    c.multiply-in-None-Some.ensures
    ∙ (λ i. both_narrow (λ x y. x *ℤ y) (Some (to_z-of_z w64 c.in-None-Some.factor f i)) (number i))
    ∙ form-times-right column c.in-Mul.left c.in-Mul.right c.in-None-Some.factor none is
    ∙ ap (narrow_form column) (sym c.in-Mul.is)

pub returns-in_default : goal.returns-in_default
returns-in_default t c =
    let column = option_copied c.args.column in
    let f : FitsSigned w64 c.read_atom-in_default.result = search rules in
    ap Some (to_z-of_z w64 _ f ∙ c.read_atom-in_default.ensures)
    ∙ form-atom column c.args.term.now (record { number = c.in_default.not-Num; word = c.in_default.not-Word; add = c.in_default.not-Add; sub = c.in_default.not-Sub; mul = c.in_default.not-Mul })
