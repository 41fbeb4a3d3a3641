use Rattle.std.proofs.Common.{codes, decimal, [], ◌∷◌, map}
use Rattle.std.specs.Fmt.{signed_decimal}
use Rattle.dl_model.specs.Machine.{listed}
use Rattle.dl_report.specs.Layout.{node_word}
use Rattle.dl_report.proofs.Written.{after, on_after}
use Rattle.dl_report.proofs.write.got.Goals as goal

pub returns : goal.returns
returns c =
    let old = c.args.out.now.items in
    let id = decimal c.args.id in
    let from = node_word c.args.names.now c.args.from in
    let b1 = c.append_word.new.out.items in
    let b2 = c.text.new.out.items in
    let b3 = c.node.new.out.items in
    on_after c.arguments.result c.arguments.new.out.items b3 old (id ∷ codes "from" ∷ from ∷ []) (map signed_decimal (listed c.args.values.now))
    (after b3 b2 old (id ∷ codes "from" ∷ []) (from ∷ []) (after b2 b1 old (id ∷ []) (codes "from" ∷ []) c.in_ok-append_word.ensures c.in_ok-text.ensures) c.in_ok-node.ensures) c.arguments.ensures
