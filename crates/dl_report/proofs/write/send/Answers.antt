use Rattle.std.proofs.Common.{codes, [], ◌∷◌, map}
use Rattle.std.specs.Fmt.{signed_decimal}
use Rattle.dl_model.specs.Machine.{listed}
use Rattle.dl_report.specs.Layout.{tag_word, addressee_word}
use Rattle.dl_report.proofs.Written.{after, on_after}
use Rattle.dl_report.proofs.write.send.Goals as goal

pub returns : goal.returns
returns c =
    let old = c.args.out.now.items in
    let tag = tag_word c.args.names.now c.args.decls.now c.args.label c.args.at in
    let to = addressee_word c.args.names.now c.args.decls.now c.args.to.now in
    let b1 = c.text.new.out.items in
    let b2 = c.tag.new.out.items in
    let b3 = c.addressee.new.out.items in
    on_after c.arguments.result c.arguments.new.out.items b3 old (codes "send" ∷ tag ∷ to ∷ []) (map signed_decimal (listed c.args.values.now))
    (after b3 b2 old (codes "send" ∷ tag ∷ []) (to ∷ []) (after b2 b1 old (codes "send" ∷ []) (tag ∷ []) c.in_ok-text.ensures c.in_ok-tag.ensures) c.in_ok-addressee.ensures) c.arguments.ensures
