use Rattle.std.proofs.Common.{◌∙◌, Result, ap}
use Rattle.dl_world.specs.declared.inject.InjectFault.{InjectFault}
use Rattle.dl_faults.specs.Wrong.{earliest}
use Rattle.dl_faults.specs.Injections.{injection_wrong}
use Rattle.dl_faults.proofs.injections.injection_fault.Goals as goal

pub returns-in-Err : goal.returns-in-Err
returns-in-Err c = c.refused.ensures ∙ ap (λ (r : Result (Unit {0}) InjectFault). earliest (injection_wrong c.args.place r)) c.in-Err.ensures.exact
