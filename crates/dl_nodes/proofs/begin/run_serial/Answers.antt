use Rattle.std.proofs.Common.{◌≡◌, ◌≤◌, length, subst, arith}
use Rattle.dl_model.specs.declared.history.Order.{Order}
use Rattle.dl_nodes.specs.Begun.{IsSerialRun}
use Rattle.dl_nodes.proofs.BeginLemmas.{enough-room, few-nodes, first-own}
use Rattle.dl_nodes.proofs.begin.run_serial.Goals as goal

pub room_for-room-requires-clause-count : goal.room_for-room-requires-clause-count
room_for-room-requires-clause-count c =
    let few : length c.in_ok-nodes.nodes.items ≤ c.args.decls.now.inst.nodes = c.in_ok-nodes.ensures.few in
    few-nodes c.args.decls.now c.len.result c.requires.formed (omega (arith, few, c.len.ensures, c.in_ok-nodes.nodes.ok.0))

pub play_out-requires-clause-first : goal.play_out-requires-clause-first
play_out-requires-clause-first c = first-own c.args.decls.now c.args.order c.in-Ok.soup c.in-Ok.ensures.first

pub play_out-requires-clause-room : goal.play_out-requires-clause-room
play_out-requires-clause-room c =
    let count : length c.in_ok-nodes.nodes.items ≡ c.len.result = omega (arith, c.len.ensures, c.in_ok-nodes.nodes.ok.0) in
    enough-room (length c.in_ok-nodes.nodes.items) c.len.result c.args.budget c.in-Ok.soup.spare c.room_for-room.result count c.room_for-room.ensures c.in-Ok.ensures.room

pub play_out-requires-clause-players : goal.play_out-requires-clause-players
play_out-requires-clause-players c = c.in_ok-nodes.ensures.players

pub play_out-requires-clause-ready : goal.play_out-requires-clause-ready
play_out-requires-clause-ready c = c.in_ok-nodes.ensures.ready

pub returns-in-Ok : goal.returns-in-Ok
returns-in-Ok c = subst (λ (o : Order). IsSerialRun c.args.decls.now c.args.budget o c.play_out.result) c.in-Ok.ensures.first.same_order c.play_out.ensures
