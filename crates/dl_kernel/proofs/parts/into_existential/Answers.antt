use Rattle.dl_kernel.proofs.PartLemmas.{no-existential}
use Rattle.dl_kernel.proofs.parts.into_existential.Goals as goal

pub returns : goal.returns
returns c = no-existential c.args.formula c.in_default.not-Exists c.in_default.not-Any
