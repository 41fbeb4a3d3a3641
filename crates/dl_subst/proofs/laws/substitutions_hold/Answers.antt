use Rattle.dl_subst.proofs.Whole.{holds-substituted}
use Rattle.dl_subst.proofs.laws.substitutions_hold.Goals as goal

pub returns : goal.returns
returns c f x new names state clear = holds-substituted f x new names state clear
