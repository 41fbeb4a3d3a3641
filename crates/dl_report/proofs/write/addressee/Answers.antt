use Rattle.std.proofs.Common.{[], ◌∷◌, ap}
use Rattle.std.specs.Fmt.{signed_decimal}
use Rattle.dl_report.specs.Layout.{node_word, addressee_word}
use Rattle.dl_report.proofs.Written.{on_same, addressee_node, addressee_number}
use Rattle.dl_report.proofs.write.addressee.Goals as goal

pub returns-in-Some : goal.returns-in-Some
returns-in-Some c =
    let names = c.args.names.now in
    let decls = c.args.decls.now in
    on_same c.node.result c.node.new.out.items c.args.out.now.items (node_word names c.in-Some.at ∷ []) (addressee_word names decls c.args.to.now ∷ [])
    (ap (λ w. w ∷ []) (addressee_node names decls c.args.to.now c.in-Some.at c.in-Some.ensures.0 c.in-Some.ensures.1)) c.node.ensures

pub returns-in-None : goal.returns-in-None
returns-in-None c =
    let names = c.args.names.now in
    let decls = c.args.decls.now in
    on_same c.integer.result c.integer.new.out.items c.args.out.now.items (signed_decimal c.args.to.now ∷ []) (addressee_word names decls c.args.to.now ∷ [])
    (ap (λ w. w ∷ []) (addressee_number names decls c.args.to.now c.in-None.ensures)) c.integer.ensures
