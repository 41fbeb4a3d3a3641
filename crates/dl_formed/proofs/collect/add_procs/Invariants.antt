use Rattle.std.proofs.Common.{◌≡◌, ◌++◌, take}
use Rattle.dl_formed.specs.Collected.{proc_names}
use Rattle.dl_formed.proofs.collect.add_procs.Given as goal

abbrev pub invariant-loop-proc : goal.invariant-loop-proc
invariant-loop-proc l = l.names ≡ l.initial.names ++ proc_names (take l.proc-index l.procs)
