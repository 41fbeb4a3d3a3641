use Rattle.std.proofs.Common.{sym}
use Rattle.dl_soup.proofs.ReplyLemmas.{taken-known}
use Rattle.dl_soup.proofs.answer.receive.Goals as goal

pub take-requires-clause-known : goal.take-requires-clause-known
take-requires-clause-known c =
    taken-known c.args.order c.turned-x.result c.args.inst.now c.args.pool.now.state c.args.wanted.now.node c.args.wanted.now.label c.args.wanted.now.tag c.in-Some.id (sym c.in-Some.ensures)
