use Rattle.dl_subst.proofs.Whole.{holds-replaced}
use Rattle.dl_subst.proofs.laws.replacements_hold.Goals as goal

pub returns : goal.returns
returns c f old new names state clear one = holds-replaced f old new names state clear one
