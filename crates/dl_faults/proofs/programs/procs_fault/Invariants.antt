use Rattle.std.proofs.Common.{◌≡◌}
use Rattle.std.specs.List.{flat_map, enumerate_from}
use Rattle.dl_faults.specs.Wrong.{joined, earliest}
use Rattle.dl_faults.specs.Programs.{proc_wrong}
use Rattle.dl_faults.proofs.Earliest.{to_come}
use Rattle.dl_faults.proofs.programs.procs_fault.Given as goal

abbrev pub invariant-loop-p : goal.invariant-loop-p
invariant-loop-p l = joined l.found (to_come (proc_wrong l.file) l.file.decls.procs l.p) ≡ earliest (flat_map (proc_wrong l.file) (enumerate_from 0 l.file.decls.procs))
