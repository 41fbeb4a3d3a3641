use Rattle.std.proofs.Common.{◌≡◌, drop}
use Rattle.std.specs.List.{list_all}
use Rattle.dl_formed.specs.Programs.{proc_is_apart}
use Rattle.dl_formed.proofs.apart.procs_are_apart.Given as goal

abbrev pub invariant-loop-proc : goal.invariant-loop-proc
invariant-loop-proc l = list_all (proc_is_apart l.names) (drop l.proc-index l.procs) ≡ list_all (proc_is_apart l.names) l.procs
