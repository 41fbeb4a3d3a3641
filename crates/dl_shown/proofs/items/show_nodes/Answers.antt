use Rattle.std.proofs.Common.{◌∷◌, ◌++◌, [], ap, ◌∙◌, arith}
use Rattle.std.specs.Prelude.{codes}
use Rattle.dl_model.specs.Words.{first_name}
use Rattle.dl_forms.specs.Show.{symbol}
use Rattle.dl_shown.specs.Shown.{nodes_from}
use Rattle.dl_shown.proofs.NodeLemmas.{next_node}
use Rattle.dl_shown.proofs.items.show_nodes.Goals as goal

pub loop-at-preserved : goal.loop-at-preserved
loop-at-preserved c =
    let names = c.args.names.now in
    let nodes = c.args.decls.now.inst.nodes in
    next_node names first_name c.loop-at.at nodes c.loop-at.parts c.push.new.self (symbol (codes "nodes") ∷ nodes_from names first_name nodes) (omega arith) c.loop-at.invariant
    (c.in_ok-push.ensures.ok ∙ ap (λ tree. c.loop-at.parts ++ tree ∷ []) c.in_ok-node.ensures)
