use Rattle.dl_history.proofs.ReplyLemmas.{told-reply}
use Rattle.dl_history.proofs.replies.is_reply.Goals as goal

pub returns : goal.returns
returns c = told-reply c.args.inst.now c.args.state.now.state c.args.node c.args.call.now c.args.reply.now c.answers.result c.answers.ensures
