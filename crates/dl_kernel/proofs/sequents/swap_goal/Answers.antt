use Rattle.std.proofs.Common.{sym, ◌∙◌, ap}
use Rattle.dl_sequent.specs.Clean.{is_clean}
use Rattle.dl_kernel.specs.Steps.{with_goal}
use Rattle.dl_kernel.proofs.sequents.swap_goal.Goals as goal

pub returns-clause-new : goal.returns-clause-new
returns-clause-new c = ap (with_goal c.args.sequent.now) c.swap.ensures.x_after

pub returns-clause-clean : goal.returns-clause-clean
returns-clause-clean c = c.allows_goal-fits.ensures ∙ ap (λ g. is_clean (with_goal c.args.sequent.now g)) (sym c.swap.ensures.x_after)
