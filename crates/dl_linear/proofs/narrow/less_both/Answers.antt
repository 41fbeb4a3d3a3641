use Rattle.std.proofs.Common.{FitsSigned, w64, ◌∙◌}
use Rattle.std.proofs.lemmas.Int.{to_z-of_z}
use Rattle.dl_linear.proofs.Widths.{converted, spelled-less}
use Rattle.dl_linear.proofs.narrow.less_both.Goals as goal

pub returns : goal.returns
returns c =
    let f : FitsSigned w64 c.args.number = c.ranges.number in
    let g : FitsSigned w64 c.args.first = c.ranges.first in
    let h : FitsSigned w64 c.args.second = c.ranges.second in
    let n = c.from.ensures ∙ to_z-of_z w64 c.args.number f in
    let a = c.from-2.ensures ∙ to_z-of_z w64 c.args.first g in
    let b = c.from-3.ensures ∙ to_z-of_z w64 c.args.second h in
    c.ok.ensures.value ∙ converted c.try_from.result _ _ c.try_from.ensures (spelled-less _ _ _ _ _ _ f g h n a b)
