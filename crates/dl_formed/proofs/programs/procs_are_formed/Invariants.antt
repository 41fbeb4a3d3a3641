use Rattle.std.proofs.Common.{◌≡◌, drop}
use Rattle.dl_formed.specs.Programs.{procs_are_formed}
use Rattle.dl_formed.proofs.programs.procs_are_formed.Given as goal

abbrev pub invariant-loop-proc : goal.invariant-loop-proc
invariant-loop-proc l = (l.number ≡ l.proc-index) × (procs_are_formed l.decls l.number (drop l.proc-index l.procs) ≡ procs_are_formed l.decls 0 l.procs)
