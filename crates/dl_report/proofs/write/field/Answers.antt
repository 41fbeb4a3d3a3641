use Rattle.std.proofs.Common.{[], ◌∷◌, ◌++◌}
use Rattle.dl_report.specs.Layout.{field_word}
use Rattle.dl_report.proofs.Written.{on_same}
use Rattle.dl_report.proofs.write.field.Goals as goal

pub returns : goal.returns
returns c =
    let front = c.label-front.result.now in
    let back = c.field_name-back.result.now in
    on_same c.dotted.result c.dotted.new.out.items c.args.out.now.items ((front ++ (46 ∷ back)) ∷ []) (field_word c.args.names.now c.args.decls.now c.args.at c.args.field ∷ [])
    (λ i. (c.label-front.ensures i ++ (46 ∷ c.field_name-back.ensures i)) ∷ []) c.dotted.ensures
