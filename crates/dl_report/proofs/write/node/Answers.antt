use Rattle.std.proofs.Common.{[], ◌∷◌, ap}
use Rattle.dl_report.specs.Layout.{node_word}
use Rattle.dl_report.proofs.Written.{on_same}
use Rattle.dl_report.proofs.write.node.Goals as goal

pub returns : goal.returns
returns c =
    on_same c.word.result c.word.new.out.items c.args.out.now.items (c.text_at.result.now ∷ []) (node_word c.args.names.now c.args.node ∷ []) (ap (λ w. w ∷ []) c.text_at.ensures) c.word.ensures
