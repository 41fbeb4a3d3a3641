use Rattle.std.proofs.Common.{pos, [], ◌∷◌}
use Rattle.dl_tree.specs.declared.tree.Tree.TheVariants as tree
use Rattle.dl_faults.specs.Shown.{name, no_place}
use Rattle.dl_verdict.specs.Parts.{point_and}
use Rattle.dl_verdict.proofs.PartLemmas.{parts-done}
use Rattle.dl_verdict.proofs.parts.add_point.Goals as goal

pub returns : goal.returns
returns c =
    let file = c.args.file.now in
    let number = tree.Num (pos c.args.point) no_place in
    parts-done c.add_number.result c.args.parts.now c.add_name.new.parts c.add_number.new.parts (name file c.proc_sym.result ∷ []) (number ∷ []) (point_and file c.args.proc c.args.point [])
    (λ j. name file (c.proc_sym.ensures j) ∷ number ∷ []) c.in_ok-add_name.ensures c.add_number.ensures
