use Rattle.std.proofs.Common.{◌≡◌, ℕ, ap, ◌∙◌, arith}
use Rattle.std.specs.List.{range_with_len}
use Rattle.dl_nodes.specs.Begun.{first_players_of}
use Rattle.dl_nodes.proofs.BeginLemmas.{nodes-go}
use Rattle.dl_nodes.proofs.begin.begin_nodes.Goals as goal

pub begin_node-requires-clause-ready : goal.begin_node-requires-clause-ready
begin_node-requires-clause-ready c = c.loop-node.invariant.ready

pub loop-node-preserved : goal.loop-node-preserved
loop-node-preserved c =
    nodes-go c.args.decls.now c.loop-node.nodes.items c.begin_node.new.nodes.items c.loop-node.node c.loop-node.invariant c.in_ok-begin_node.ensures.players c.begin_node.ensures.ready c.begin_node.ensures.few

pub returns-clause-players : goal.returns-clause-players
returns-clause-players c =
    let all : c.loop-node.node ≡ c.args.decls.now.inst.nodes = omega arith in
    c.loop-node.invariant.players ∙ ap (λ (n : ℕ). first_players_of c.args.decls.now (range_with_len 0 n)) all

pub returns-clause-ready : goal.returns-clause-ready
returns-clause-ready c = c.loop-node.invariant.ready

pub returns-clause-few : goal.returns-clause-few
returns-clause-few c = omega arith
