use Rattle.std.proofs.Common.{FitsSigned, rules}
use Rattle.std.proofs.lemmas.Int.{to_z-of_z}
use mir.Syntax.{w64}
use Rattle.dl_model.specs.Delivery.{matches}
use Rattle.dl_soup.specs.Replies.{taken, turned}
use Rattle.dl_soup.proofs.ReplyLemmas.{await-leads, poll-leads, send-leads}
use Rattle.dl_soup.proofs.answer.answer.Goals as goal

pub returns-in-Send-clause-state : goal.returns-in-Send-clause-state
returns-in-Send-clause-state c =
    let fits : FitsSigned w64 c.in-Send.to = search rules in
    send-leads c.args.inst.now c.args.pool.now.state c.args.node c.in-Send.label c.in-Send.tag c.send.result _ c.in-Send.to c.in-Send.args c.args.call.now c.listed.result.now c.send.new.self
    c.in-Send.is c.listed.ensures (simp to_z-of_z at c.send.ensures.pool)

pub returns-in-Poll-clause-state : goal.returns-in-Poll-clause-state
returns-in-Poll-clause-state c =
    poll-leads c.args.inst.now c.args.pool.now.state c.args.node c.in-Poll.label c.in-Poll.tag _ c.args.call.now
    (taken c.args.order (turned c.args.turn.now) (matches c.args.inst.now c.args.pool.now.state c.args.node c.in-Poll.label c.in-Poll.tag)) c.receive.result c.receive.new.pool
    c.in-Poll.is c.receive.ensures.reply c.receive.ensures.pool

pub returns-in-Await-clause-state : goal.returns-in-Await-clause-state
returns-in-Await-clause-state c =
    await-leads c.args.inst.now c.args.pool.now.state c.args.node c.in-Await.label c.in-Await.tag _ c.args.call.now
    (taken c.args.order (turned c.args.turn.now) (matches c.args.inst.now c.args.pool.now.state c.args.node c.in-Await.label c.in-Await.tag)) c.receive-in-Await.result c.receive-in-Await.new.pool
    c.in-Await.is c.receive-in-Await.ensures.reply c.receive-in-Await.ensures.pool
