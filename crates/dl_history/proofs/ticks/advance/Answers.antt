use Rattle.std.proofs.Common.{◌≡◌, List, sym, subst}
use Rattle.dl_model.specs.declared.program.Proc.{Proc}
use Rattle.dl_model.specs.Machine.{next}
use Rattle.dl_prog.specs.Moves.{answer_of, moved}
use Rattle.dl_prog.specs.Places.{machine_of}
use Rattle.dl_prog.specs.Ready.{ProcsCanRun, IsReady}
use Rattle.dl_prog.proofs.FormedLemmas.{formed-run}
use Rattle.dl_history.proofs.ticks.advance.Goals as goal

pub advance-requires-clause-can_run : goal.advance-requires-clause-can_run
advance-requires-clause-can_run c = subst ProcsCanRun (sym c.as_slice.ensures) (formed-run c.args.decls.now c.requires.formed)

pub advance-requires-clause-ready : goal.advance-requires-clause-ready
advance-requires-clause-ready c = subst (λ (ps : List Proc). IsReady ps c.args.cont.now) (sym c.as_slice.ensures) c.requires.ready

pub returns-clause-ready : goal.returns-clause-ready
returns-clause-ready c = subst (λ (ps : List Proc). IsReady ps c.advance.new.self) c.as_slice.ensures c.advance.ensures.ready

pub returns-clause-answer : goal.returns-clause-answer
returns-clause-answer c = subst (λ (ps : List Proc). c.advance.result ≡ answer_of (next ps (machine_of ps c.args.cont.now))) c.as_slice.ensures c.advance.ensures.answer

pub returns-clause-moves : goal.returns-clause-moves
returns-clause-moves c =
    subst (λ (ps : List Proc). machine_of ps c.advance.new.self ≡ moved (machine_of ps c.args.cont.now) (next ps (machine_of ps c.args.cont.now))) c.as_slice.ensures c.advance.ensures.moves
