use Rattle.std.proofs.Common.{◌≡◌, ◌<◌, List, [], ℤ, pos, length, IfOk, sym, ◌∙◌, ap, subst}
use Rattle.dl_model.specs.declared.program.Proc.{Proc}
use Rattle.dl_model.specs.Lookup.{proc_at}
use Rattle.dl_model.specs.Machine.{Working, entered}
use Rattle.dl_prog.specs.declared.cont.Cont.{Cont}
use Rattle.dl_prog.specs.Places.{machine_of}
use Rattle.dl_prog.specs.Ready.{ProcsCanRun, IsReady}
use Rattle.dl_prog.proofs.FormedLemmas.{formed-run}
use Rattle.dl_history.proofs.StepLemmas.{as-many}
use Rattle.dl_history.proofs.start.make_machine.Goals as goal

pub make-requires-clause-can_run : goal.make-requires-clause-can_run
make-requires-clause-can_run c = subst ProcsCanRun (sym c.as_slice-procs.ensures) (formed-run c.args.decls.now c.requires.formed)

pub make-requires-clause-proc : goal.make-requires-clause-proc
make-requires-clause-proc c = subst (λ (ps : List Proc). c.args.program.now.proc < length ps) (sym c.as_slice-procs.ensures) c.requires.program.proc

pub make-requires-clause-args : goal.make-requires-clause-args
make-requires-clause-args c =
    let program = c.args.program.now in
    ap length c.as_slice-constants.ensures
    ∙ as-many (proc_at c.args.decls.now.procs program.proc).params program.constants c.requires.program.constants
    ∙ ap (λ (ps : List Proc). length (proc_at ps program.proc).params) (sym c.as_slice-procs.ensures)

pub returns-clause-ready : goal.returns-clause-ready
returns-clause-ready c = subst (λ (ps : List Proc). IfOk c.make.result (λ (cont : Cont). IsReady ps cont)) c.as_slice-procs.ensures c.make.ensures.ready

pub returns-clause-machine : goal.returns-clause-machine
returns-clause-machine c =
    let program = c.args.program.now in
    let procs = c.args.decls.now.procs in
    subst (λ (vs : List ℤ). IfOk c.make.result (λ (cont : Cont). machine_of procs cont ≡ Working (entered procs program.proc (pos program.node) vs) [])) c.as_slice-constants.ensures
    (subst (λ (ps : List Proc). IfOk c.make.result (λ (cont : Cont). machine_of ps cont ≡ Working (entered ps program.proc (pos program.node) c.as_slice-constants.result.now) [])) c.as_slice-procs.ensures c.make.ensures.machine)
