use Rattle.dl_model.specs.Machine.{Ticked}
use Rattle.dl_prog.specs.Places.{machine_of}
use Rattle.dl_prog.specs.Ready.{IsReady}
use Rattle.dl_history.proofs.ticks.makes_ticks.Given as goal

abbrev pub invariant-loop-made : goal.invariant-loop-made
invariant-loop-made l = record {
  ready : IsReady l.decls.procs l.cont;
  ticks : Ticked l.decls.procs l._made (machine_of l.decls.procs l.initial.cont) (machine_of l.decls.procs l.cont);
}
