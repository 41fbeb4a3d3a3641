use Rattle.dl_subst.proofs.Whole.{holds-message_substituted}
use Rattle.dl_subst.proofs.laws.messages_hold.Goals as goal

pub returns : goal.returns
returns c f x new names state clear = holds-message_substituted f x new names state clear
