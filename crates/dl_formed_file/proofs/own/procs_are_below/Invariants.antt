use Rattle.std.proofs.Common.{◌≡◌, drop}
use Rattle.std.specs.List.{list_all}
use Rattle.dl_formed_file.specs.Decided.{proc_is_below}
use Rattle.dl_formed_file.proofs.own.procs_are_below.Given as goal

abbrev pub invariant-loop-proc : goal.invariant-loop-proc
invariant-loop-proc l = list_all (proc_is_below l.count) (drop l.proc-index l.procs) ≡ list_all (proc_is_below l.count) l.procs
