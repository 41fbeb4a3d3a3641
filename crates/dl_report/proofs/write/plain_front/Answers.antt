use Rattle.std.proofs.Common.{codes, decimal, [], ◌∷◌, ◌++◌}
use Rattle.dl_report.specs.Layout.{node_word, call_words}
use Rattle.dl_report.proofs.Written.{after, on_after}
use Rattle.dl_report.proofs.write.plain_front.Goals as goal

pub returns : goal.returns
returns c =
    let names = c.args.names.now in
    let entry = c.args.entry.now in
    let old = c.args.out.now.items in
    let node = node_word names entry.node in
    let ticks = decimal entry.ticks in
    let made = call_words names c.args.decls.now entry.call in
    let b1 = c.node.new.out.items in
    let b2 = c.natural.new.out.items in
    let b3 = c.call.new.out.items in
    let b4 = c.text.new.out.items in
    on_after c.text.result b4 b2 old (node ∷ ticks ∷ []) (made ++ (codes "->" ∷ [])) (after b2 b1 old (node ∷ []) (ticks ∷ []) c.in_ok-node.ensures c.in_ok-natural.ensures)
    (on_after c.text.result b4 b3 b2 made (codes "->" ∷ []) c.in_ok-call.ensures c.text.ensures)
