use Rattle.std.proofs.Common.{◌∙◌}
use Rattle.dl_kernel.proofs.CleanLemmas.{clean-added}
use Rattle.dl_kernel.proofs.sequents.allows_fact.Goals as goal

pub returns : goal.returns
returns c = c.is_new_and_fit.ensures ∙ clean-added c.args.sequent.now c.args.name c.args.formula.now c.requires
