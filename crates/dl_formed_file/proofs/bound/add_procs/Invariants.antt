use Rattle.std.proofs.Common.{◌≡◌, drop}
use Rattle.std.specs.List.{flat_map}
use Rattle.dl_formed_file.specs.Bound.{with_names, proc_bound}
use Rattle.dl_formed_file.proofs.bound.add_procs.Given as goal

abbrev pub invariant-loop-proc : goal.invariant-loop-proc
invariant-loop-proc l = with_names l.set.keys (flat_map proc_bound (drop l.proc-index l.procs)) ≡ with_names l.initial.set.keys (flat_map proc_bound l.procs)
