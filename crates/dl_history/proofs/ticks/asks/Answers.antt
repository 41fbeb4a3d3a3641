use Rattle.std.proofs.Common.{sym, ◌∙◌}
use Rattle.dl_model.specs.Machine.{next}
use Rattle.dl_prog.specs.Places.{machine_of}
use Rattle.dl_history.proofs.AdvanceLemmas.{no-call-told, asks-told, asks-stays, asks-another}
use Rattle.dl_history.proofs.ticks.asks.Goals as goal

pub returns-in-Call-clause-asks : goal.returns-in-Call-clause-asks
returns-in-Call-clause-asks c =
    let procs = c.args.decls.now.procs in
    asks-told (next procs (machine_of procs c.args.cont.now)) c.advance.result c.in-Call.asked c.args.call.now c.same_call.result c.advance.ensures.answer c.in-Call.is c.same_call.ensures

pub returns-in-Call-clause-stays : goal.returns-in-Call-clause-stays
returns-in-Call-clause-stays c = λ t.
    let procs = c.args.decls.now.procs in
    asks-stays (machine_of procs c.args.cont.now) (machine_of procs c.advance.new.cont) (next procs (machine_of procs c.args.cont.now)) c.advance.result c.in-Call.asked c.advance.ensures.answer c.in-Call.is c.advance.ensures.moves

pub returns-in-Call-clause-refused : goal.returns-in-Call-clause-refused
returns-in-Call-clause-refused c =
    let procs = c.args.decls.now.procs in
    asks-another (next procs (machine_of procs c.args.cont.now)) c.advance.result c.in-Call.asked c.args.call.now c.same_call.result c.advance.ensures.answer c.in-Call.is c.same_call.ensures

pub returns-in-Tick-clause-refused : goal.returns-in-Tick-clause-refused
returns-in-Tick-clause-refused c = λ f.
    let procs = c.args.decls.now.procs in
    no-call-told (next procs (machine_of procs c.args.cont.now)) c.advance.result c.args.call.now c.advance.ensures.answer (λ q. cc (sym q ∙ c.in-Tick.is))

pub returns-in-Ended-clause-refused : goal.returns-in-Ended-clause-refused
returns-in-Ended-clause-refused c = λ f.
    let procs = c.args.decls.now.procs in
    no-call-told (next procs (machine_of procs c.args.cont.now)) c.advance.result c.args.call.now c.advance.ensures.answer (λ q. cc (sym q ∙ c.in-Ended.is))

pub returns-in-Stopped-clause-refused : goal.returns-in-Stopped-clause-refused
returns-in-Stopped-clause-refused c = λ f.
    let procs = c.args.decls.now.procs in
    no-call-told (next procs (machine_of procs c.args.cont.now)) c.advance.result c.args.call.now c.advance.ensures.answer (λ q. cc (sym q ∙ c.in-Stopped.is))
