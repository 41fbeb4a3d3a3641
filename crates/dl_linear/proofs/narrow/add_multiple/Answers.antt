use Rattle.std.proofs.Common.{◌+ℤ◌, ◌*ℤ◌, FitsSigned, to_z, of_z, w64, sym, subst, ◌∙◌, ap}
use Rattle.std.proofs.lemmas.Int.{to_z-of_z}
use mir.Syntax.{w128}
use Rattle.dl_linear.proofs.Widths.{spelled, total-fits, converted}
use Rattle.dl_linear.proofs.narrow.add_multiple.Goals as goal

pub overflow_add-from : goal.overflow_add-from
overflow_add-from c =
    let f : FitsSigned w64 c.args.sum = c.ranges.sum in
    let g : FitsSigned w64 c.args.factor = c.ranges.factor in
    let h : FitsSigned w64 c.args.number = c.ranges.number in
    let s = c.from-3.ensures ∙ to_z-of_z w64 c.args.sum f in
    let a = c.from.ensures ∙ to_z-of_z w64 c.args.factor g in
    let b = c.from-2.ensures ∙ to_z-of_z w64 c.args.number h in
    let same = (λ i. to_z w128 (of_z w128 (s i)) +ℤ to_z w128 (of_z w128 (to_z w128 (of_z w128 (a i)) *ℤ to_z w128 (of_z w128 (b i))))) ∙ spelled c.args.sum c.args.factor c.args.number f g h in
    subst (FitsSigned w128) (sym same) (total-fits c.args.sum c.args.factor c.args.number f g h)

pub returns : goal.returns
returns c =
    let f : FitsSigned w64 c.args.sum = c.ranges.sum in
    let g : FitsSigned w64 c.args.factor = c.ranges.factor in
    let h : FitsSigned w64 c.args.number = c.ranges.number in
    let s = c.from-3.ensures ∙ to_z-of_z w64 c.args.sum f in
    let a = c.from.ensures ∙ to_z-of_z w64 c.args.factor g in
    let b = c.from-2.ensures ∙ to_z-of_z w64 c.args.number h in
    let same = (λ i. to_z w128 (of_z w128 (s i)) +ℤ to_z w128 (of_z w128 (to_z w128 (of_z w128 (a i)) *ℤ to_z w128 (of_z w128 (b i))))) ∙ spelled c.args.sum c.args.factor c.args.number f g h in
    let whole = ap (λ z. to_z w128 (of_z w128 z)) same ∙ to_z-of_z w128 _ (total-fits c.args.sum c.args.factor c.args.number f g h) in
    c.ok.ensures.value ∙ converted c.try_from.result _ _ c.try_from.ensures whole
