use Rattle.dl_history.proofs.ReplyLemmas.{told-free}
use Rattle.dl_history.proofs.free.is_free_call.Goals as goal

pub returns : goal.returns
returns c = told-free c.args.decls.now c.args.state.now.state c.args.node c.args.call.now c.args.reply.now c.is_allowed.result c.is_allowed.ensures
