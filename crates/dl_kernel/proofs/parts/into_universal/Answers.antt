use Rattle.dl_kernel.proofs.PartLemmas.{no-universal}
use Rattle.dl_kernel.proofs.parts.into_universal.Goals as goal

pub returns : goal.returns
returns c = no-universal c.args.formula c.in_default.not-All c.in_default.not-Each
