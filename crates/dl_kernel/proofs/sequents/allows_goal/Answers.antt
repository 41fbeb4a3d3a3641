use Rattle.std.proofs.Common.{◌∙◌}
use Rattle.dl_kernel.proofs.CleanLemmas.{clean-goal}
use Rattle.dl_kernel.proofs.sequents.allows_goal.Goals as goal

pub returns : goal.returns
returns c = c.is_fit.ensures ∙ clean-goal c.args.sequent.now c.args.goal.now c.requires
