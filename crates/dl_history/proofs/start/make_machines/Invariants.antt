use Rattle.std.proofs.Common.{take}
use Rattle.std.specs.List.{AllZip}
use Rattle.dl_history.specs.Started.{IsStarted}
use Rattle.dl_history.proofs.start.make_machines.Given as goal

abbrev pub invariant-loop-program : goal.invariant-loop-program
invariant-loop-program l = AllZip (IsStarted l.decls) (take l.program-index l.program-items) l.machines
