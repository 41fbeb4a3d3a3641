use Rattle.std.proofs.Common.{None, if◌then◌else◌, ◌∙◌, ap}
use Rattle.dl_sequent.specs.Clean.{is_clean}
use Rattle.dl_kernel.proofs.rules.add_beside.Goals as goal

pub returns-in-Ok-clause-one : goal.returns-in-Ok-clause-one
returns-in-Ok-clause-one c = c.if_fits.ensures ∙ ap (λ b. if b then c.args.one else None) (c.in-Ok.ensures.clean ∙ ap is_clean c.in-Ok.ensures.new)

pub returns-in-Ok-clause-new : goal.returns-in-Ok-clause-new
returns-in-Ok-clause-new c = c.in-Ok.ensures.new
