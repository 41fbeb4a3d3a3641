use Rattle.std.proofs.Common.{codes, decimal, [], ◌∷◌, ◌++◌}
use Rattle.dl_report.specs.Layout.{node_word, end_words}
use Rattle.dl_report.proofs.Written.{on_line}
use Rattle.dl_report.proofs.write.ending_line.Goals as goal

pub returns : goal.returns
returns c =
    let ending = c.args.ending.now in
    on_line c.byte.result c.byte.new.out.items c.text.new.out.items c.behind_end.new.out.items c.args.out.now.items (codes "end")
    (node_word c.args.names.now ending.0 ∷ (end_words ending.1 ++ (codes "units" ∷ decimal ending.2 ∷ [])))
    c.in_ok-text.ensures c.in_ok-behind_end.ensures c.byte.ensures
