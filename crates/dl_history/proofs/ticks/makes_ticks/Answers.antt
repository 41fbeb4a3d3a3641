use Rattle.std.proofs.Common.{◌≡◌, ◌<◌, refl, sym, subst, add-one, arith}
use Rattle.dl_model.specs.Machine.{Machine, Ticked}
use Rattle.dl_prog.specs.Places.{machine_of}
use Rattle.dl_history.proofs.Ticking.{ticked-more, ticked-stopped}
use Rattle.dl_history.proofs.ticks.makes_ticks.Goals as goal

pub loop-made-init : goal.loop-made-init
loop-made-init c = record { ready = c.requires.ready; ticks = refl }

pub returns-then-not-makes_tick-clause-refused : goal.returns-then-not-makes_tick-clause-refused
returns-then-not-makes_tick-clause-refused c = λ f after more.
    let procs = c.args.decls.now.procs in
    let at : Machine = machine_of procs c.loop-made.cont in
    let within : c.loop-made._made < c.args.ticks = omega arith in
    ticked-stopped procs c.args.ticks c.loop-made._made (machine_of procs c.args.cont.now) at within c.loop-made.invariant.ticks (c.makes_tick.ensures.refused c.if-not-makes_tick.true) after more

pub loop-made-preserved : goal.loop-made-preserved
loop-made-preserved c =
    let procs = c.args.decls.now.procs in
    let first : Machine = machine_of procs c.args.cont.now in
    let after : Machine = machine_of procs c.makes_tick.new.cont in
    record {
      ready = c.makes_tick.ensures.ready;
      ticks = subst (λ k. Ticked procs k first after) (sym (add-one c.loop-made._made))
          (ticked-more procs c.loop-made._made first (machine_of procs c.loop-made.cont) after c.loop-made.invariant.ticks (c.makes_tick.ensures.made c.if-not-makes_tick.false));
    }

pub returns-clause-made : goal.returns-clause-made
returns-clause-made c = λ t.
    let procs = c.args.decls.now.procs in
    let all : c.loop-made._made ≡ c.args.ticks = omega arith in
    subst (λ k. Ticked procs k (machine_of procs c.args.cont.now) (machine_of procs c.loop-made.cont)) all c.loop-made.invariant.ticks
