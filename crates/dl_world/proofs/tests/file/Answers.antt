use Rattle.std.proofs.Common.{sym, subst}
use Rattle.dl_model.specs.Formed.{InstancesAreFormed}
use Rattle.dl_world.proofs.Tried.{instances-formed}
use Rattle.dl_world.proofs.tests.file.Goals as goal

pub returns-clause-inst : goal.returns-clause-inst
returns-clause-inst c = subst InstancesAreFormed (sym c.in_ok-inst.ensures) instances-formed
