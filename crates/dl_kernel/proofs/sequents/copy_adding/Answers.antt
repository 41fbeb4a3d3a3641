use Rattle.std.proofs.Common.{◌∙◌, ap}
use Rattle.dl_model.specs.declared.sequent.Sequent.{Sequent}
use Rattle.dl_kernel.specs.Steps.{with_fact}
use Rattle.dl_kernel.proofs.sequents.copy_adding.Goals as goal

pub returns-in-Ok : goal.returns-in-Ok
returns-in-Ok c = c.in-Ok.ensures ∙ ap (λ (s : Sequent). with_fact s c.args.name c.args.formula.now) c.in_ok-one.ensures
