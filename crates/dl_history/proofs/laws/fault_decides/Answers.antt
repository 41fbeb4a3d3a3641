use Rattle.dl_model.specs.Runs.{initial}
use Rattle.dl_history.proofs.Faults.{fault-apart, fault-one}
use Rattle.dl_history.proofs.laws.fault_decides.Goals as goal

pub returns-clause-run : goal.returns-clause-run
returns-clause-run c decls entries after position = fault-apart decls (initial decls) entries after position

pub returns-clause-one : goal.returns-clause-one
returns-clause-one c decls entries a b = fault-one decls (initial decls) entries a b
