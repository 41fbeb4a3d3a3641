use Rattle.std.proofs.Common.{◌≡◌, List, sym, subst}
use Rattle.dl_model.specs.declared.program.Proc.{Proc}
use Rattle.dl_model.specs.Machine.{after_reply}
use Rattle.dl_prog.specs.Places.{machine_of}
use Rattle.dl_prog.specs.Ready.{ProcsCanRun, IsReady}
use Rattle.dl_prog.proofs.FormedLemmas.{formed-run}
use Rattle.dl_history.proofs.ticks.resume.Goals as goal

pub resume-requires-clause-can_run : goal.resume-requires-clause-can_run
resume-requires-clause-can_run c = subst ProcsCanRun (sym c.as_slice.ensures) (formed-run c.args.decls.now c.requires.formed)

pub resume-requires-clause-ready : goal.resume-requires-clause-ready
resume-requires-clause-ready c = subst (λ (ps : List Proc). IsReady ps c.args.cont.now) (sym c.as_slice.ensures) c.requires.ready

pub returns-clause-ready : goal.returns-clause-ready
returns-clause-ready c = subst (λ (ps : List Proc). IsReady ps c.resume.new.self) c.as_slice.ensures c.resume.ensures.ready

pub returns-clause-moves : goal.returns-clause-moves
returns-clause-moves c =
    subst (λ (ps : List Proc). machine_of ps c.resume.new.self ≡ after_reply (machine_of ps c.args.cont.now) c.args.reply.now) c.as_slice.ensures c.resume.ensures.moves
