use Rattle.std.proofs.Common.{is_some, ◌∙◌, ap}
use Rattle.dl_kernel.proofs.CleanLemmas.{is_some-copied, message-known}
use Rattle.dl_kernel.proofs.scope.is_message.Goals as goal

pub returns : goal.returns
returns c = c.is_some.ensures ∙ is_some-copied c.message_of.result ∙ ap is_some c.message_of.ensures ∙ message-known c.args.messages.now c.args.name
