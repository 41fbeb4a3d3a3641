use Rattle.std.proofs.Common.{[], ◌∷◌, ◌++◌}
use Rattle.dl_report.specs.Layout.{tag_word}
use Rattle.dl_report.proofs.Written.{on_same}
use Rattle.dl_report.proofs.write.tag.Goals as goal

pub returns : goal.returns
returns c =
    let front = c.label-front.result.now in
    let back = c.tag_name-back.result.now in
    on_same c.dotted.result c.dotted.new.out.items c.args.out.now.items ((front ++ (46 ∷ back)) ∷ []) (tag_word c.args.names.now c.args.decls.now c.args.at c.args.tag ∷ [])
    (λ i. (c.label-front.ensures i ++ (46 ∷ c.tag_name-back.ensures i)) ∷ []) c.dotted.ensures
