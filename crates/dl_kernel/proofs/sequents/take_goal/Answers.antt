use Rattle.std.proofs.Common.{◌∙◌, ap}
use Rattle.dl_sequent.specs.Clean.{is_clean}
use Rattle.dl_kernel.specs.Steps.{with_goal}
use Rattle.dl_kernel.proofs.CleanLemmas.{clean-true}
use Rattle.dl_kernel.proofs.sequents.take_goal.Goals as goal

pub returns-clause-clean : goal.returns-clause-clean
returns-clause-clean c = ap (λ g. is_clean (with_goal c.args.sequent.now g)) c.replace.ensures.after ∙ clean-true c.args.sequent.now c.requires.clean
