use Rattle.std.proofs.Common.{◌≡◌, ◌++◌, drop}
use Rattle.dl_formed.specs.Collected.{proc_variables}
use Rattle.dl_formed.proofs.collect.add_proc_variables.Given as goal

abbrev pub invariant-loop-proc : goal.invariant-loop-proc
invariant-loop-proc l = l.names ++ proc_variables (drop l.proc-index l.procs) ≡ l.initial.names ++ proc_variables l.procs
