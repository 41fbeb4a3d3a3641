use Rattle.dl_faults.proofs.Proved.{obligations-met, program-obligations-met}
use Rattle.dl_faults.proofs.laws.obligations_are_met.Goals as goal

pub returns-clause-states : goal.returns-clause-states
returns-clause-states c = obligations-met

pub returns-clause-programs : goal.returns-clause-programs
returns-clause-programs c = program-obligations-met
