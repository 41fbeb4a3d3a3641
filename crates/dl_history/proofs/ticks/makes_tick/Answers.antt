use Rattle.std.proofs.Common.{sym, ◌∙◌}
use Rattle.dl_model.specs.Machine.{next}
use Rattle.dl_prog.specs.Places.{machine_of}
use Rattle.dl_history.proofs.AdvanceLemmas.{tick-told, no-tick-told}
use Rattle.dl_history.proofs.ticks.makes_tick.Goals as goal

pub returns-in-Tick-clause-made : goal.returns-in-Tick-clause-made
returns-in-Tick-clause-made c = λ t.
    let procs = c.args.decls.now.procs in
    tick-told (machine_of procs c.args.cont.now) (machine_of procs c.advance.new.cont) (next procs (machine_of procs c.args.cont.now)) c.advance.result c.advance.ensures.answer c.advance.ensures.moves c.in-Tick.is

pub returns-in-Call-clause-refused : goal.returns-in-Call-clause-refused
returns-in-Call-clause-refused c = λ f.
    let procs = c.args.decls.now.procs in
    no-tick-told (next procs (machine_of procs c.args.cont.now)) c.advance.result c.advance.ensures.answer (λ t. cc (sym t ∙ c.in-Call.is))

pub returns-in-Ended-clause-refused : goal.returns-in-Ended-clause-refused
returns-in-Ended-clause-refused c = λ f.
    let procs = c.args.decls.now.procs in
    no-tick-told (next procs (machine_of procs c.args.cont.now)) c.advance.result c.advance.ensures.answer (λ t. cc (sym t ∙ c.in-Ended.is))

pub returns-in-Stopped-clause-refused : goal.returns-in-Stopped-clause-refused
returns-in-Stopped-clause-refused c = λ f.
    let procs = c.args.decls.now.procs in
    no-tick-told (next procs (machine_of procs c.args.cont.now)) c.advance.result c.advance.ensures.answer (λ t. cc (sym t ∙ c.in-Stopped.is))
