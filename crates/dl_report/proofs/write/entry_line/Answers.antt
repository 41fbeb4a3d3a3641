use Rattle.std.proofs.Common.{codes, decimal, ◌∷◌, ◌++◌}
use Rattle.dl_report.specs.Layout.{node_word, call_words, reply_words}
use Rattle.dl_report.proofs.Written.{on_line}
use Rattle.dl_report.proofs.Kept.{on_both}
use Rattle.dl_report.proofs.write.entry_line.Goals as goal

pub returns : goal.returns
returns c =
    let names = c.args.names.now in
    let entry = c.args.entry.now in
    let line = on_line c.byte.result c.byte.new.out.items c.append.new.out.items c.behind_number.new.out.items c.args.out.now.items (decimal c.args.number)
    (node_word names entry.node ∷ decimal entry.ticks ∷ (call_words names c.args.decls.now entry.call ++ (codes "->" ∷ reply_words names entry.reply)))
    c.in_ok-append.ensures c.in_ok-behind_number.ensures.0 c.byte.ensures in
    on_both _ _ c.byte.result line c.in_ok-behind_number.ensures.1
