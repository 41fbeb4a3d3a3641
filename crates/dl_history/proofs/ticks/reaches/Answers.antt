use Rattle.std.proofs.Common.{◌≡◌, sym, ◌∙◌, ap, subst}
use Rattle.dl_model.specs.Machine.{Machine, Ticked, next}
use Rattle.dl_prog.specs.Places.{machine_of}
use Rattle.dl_history.proofs.Ticking.{not-reached}
use Rattle.dl_history.proofs.ticks.reaches.Goals as goal

pub returns-then-not-makes_ticks-clause-refused : goal.returns-then-not-makes_ticks-clause-refused
returns-then-not-makes_ticks-clause-refused c = λ f asking r. c.makes_ticks.ensures.refused c.if-not-makes_ticks.true asking r.ticks

pub returns-clause-reached : goal.returns-clause-reached
returns-clause-reached c = λ t.
    let procs = c.args.decls.now.procs in
    let stays : machine_of procs c.asks.new.cont ≡ machine_of procs c.makes_ticks.new.cont = c.asks.ensures.stays t in
    record {
      ticks = subst (λ (m : Machine). Ticked procs c.args.ticks (machine_of procs c.args.cont.now) m) (sym stays) (c.makes_ticks.ensures.made c.if-not-makes_ticks.false);
      asks = ap (next procs) stays ∙ c.asks.ensures.asks t;
    }

pub returns-clause-refused : goal.returns-clause-refused
returns-clause-refused c = λ f asking r.
    let procs = c.args.decls.now.procs in
    not-reached procs c.args.ticks c.args.call.now (machine_of procs c.args.cont.now) (machine_of procs c.makes_ticks.new.cont) (c.makes_ticks.ensures.made c.if-not-makes_ticks.false) (c.asks.ensures.refused f) asking r
