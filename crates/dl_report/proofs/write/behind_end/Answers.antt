use Rattle.std.proofs.Common.{codes, decimal, [], ◌∷◌, ◌++◌}
use Rattle.dl_report.specs.Layout.{node_word, end_words}
use Rattle.dl_report.proofs.Written.{on_after}
use Rattle.dl_report.proofs.write.behind_end.Goals as goal

pub returns : goal.returns
returns c =
    let ending = c.args.ending.now in
    let old = c.args.out.now.items in
    let node = node_word c.args.names.now ending.0 in
    let state = end_words ending.1 in
    let units = decimal ending.2 in
    let b1 = c.node.new.out.items in
    let b2 = c.state.new.out.items in
    let b3 = c.word.new.out.items in
    let b4 = c.natural.new.out.items in
    on_after c.natural.result b4 b1 old (node ∷ []) (state ++ (codes "units" ∷ units ∷ [])) c.in_ok-node.ensures
    (on_after c.natural.result b4 b2 b1 state (codes "units" ∷ units ∷ []) c.in_ok-state.ensures (on_after c.natural.result b4 b3 b2 (codes "units" ∷ []) (units ∷ []) c.in_ok-word.ensures c.natural.ensures))
