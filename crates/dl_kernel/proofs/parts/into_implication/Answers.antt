use Rattle.dl_kernel.proofs.PartLemmas.{no-implication}
use Rattle.dl_kernel.proofs.parts.into_implication.Goals as goal

pub returns : goal.returns
returns c = no-implication c.args.formula c.in_default.not-Implies c.in_default.not-Not
