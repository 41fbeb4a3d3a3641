use Rattle.std.proofs.Common.{codes, decimal, [], ◌∷◌, ◌++◌, ap, append_assoc}
use Rattle.dl_report.specs.Layout.{node_word, call_words, reply_words}
use Rattle.dl_report.proofs.Written.{on_after, on_same}
use Rattle.dl_report.proofs.Kept.{on_both}
use Rattle.dl_report.proofs.write.behind_number.Goals as goal

pub returns : goal.returns
returns c =
    let names = c.args.names.now in
    let entry = c.args.entry.now in
    let node = node_word names entry.node in
    let ticks = decimal entry.ticks in
    let made = call_words names c.args.decls.now entry.call in
    let reply = reply_words names entry.reply in
    let arrow = codes "->" ∷ [] in
    let old = c.args.out.now.items in
    let new = c.reply.new.out.items in
    let whole = on_after c.reply.result new c.entry_front.new.out.items old (node ∷ ticks ∷ (made ++ arrow)) reply c.in_ok-entry_front.ensures.0 c.reply.ensures in
    on_both _ _ c.reply.result
    (on_same c.reply.result new old ((node ∷ ticks ∷ (made ++ arrow)) ++ reply) (node ∷ ticks ∷ (made ++ (codes "->" ∷ reply))) (ap (λ ws. node ∷ ticks ∷ ws) (append_assoc made arrow reply)) whole)
    c.in_ok-entry_front.ensures.1
