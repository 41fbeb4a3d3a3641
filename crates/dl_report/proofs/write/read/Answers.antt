use Rattle.std.proofs.Common.{codes, [], ◌∷◌}
use Rattle.dl_report.specs.Layout.{field_word, index_words}
use Rattle.dl_report.proofs.Written.{after, on_after}
use Rattle.dl_report.proofs.write.read.Goals as goal

pub returns : goal.returns
returns c =
    let old = c.args.out.now.items in
    let field = field_word c.args.names.now c.args.decls.now c.args.label c.args.at in
    let b1 = c.word.new.out.items in
    let b2 = c.field.new.out.items in
    on_after c.place.result c.place.new.out.items b2 old (codes "read" ∷ field ∷ []) (index_words c.args.index.now)
    (after b2 b1 old (codes "read" ∷ []) (field ∷ []) c.in_ok-word.ensures c.in_ok-field.ensures) c.place.ensures
