use Rattle.std.proofs.Common.{◌≡◌, ◌≤◌, ◌-◌, false, refl, sym, ◌∙◌, subst, arith}
use Rattle.dl_model.specs.Machine.{Asks, next}
use Rattle.dl_prog.specs.Places.{machine_of}
use Rattle.dl_soup.specs.Seen.{Seen}
use Rattle.dl_nodes.specs.Given.{ProcsAreGiven}
use Rattle.dl_nodes.specs.Players.{player_of}
use Rattle.dl_nodes.specs.Serial.{left_of, ticked}
use Rattle.dl_nodes.specs.Turns.{TurnIsMade}
use Rattle.dl_nodes.proofs.GivenLemmas.{call-given}
use Rattle.dl_nodes.proofs.TurnLemmas.{asks-next, asks-nothing, call-asked, call-has-room, call-made, calls-no-tick, end-asked, ends-no-tick, none-made, spent-asked, spent-step, stand-step, stop-asked, stops-no-tick, ticks-begin, ticks-go, with_cont}
use Rattle.dl_nodes.proofs.turn.take_turn.Goals as goal

pub loop-bare-init : goal.loop-bare-init
loop-bare-init c = record { same = refl; ticks = ticks-begin c.args.procs.now c.args.soup.now.inst c.args.budget c.args.bare.now c.requires.ready }

pub advance-at-requires-clause-ready : goal.advance-at-requires-clause-ready
advance-at-requires-clause-ready c = c.loop-bare.invariant.ticks.way.ready.cont

pub count_tick-requires-clause-ticks : goal.count_tick-requires-clause-ticks
count_tick-requires-clause-ticks c = omega (arith, c.loop-bare.invariant.ticks.way.ready.ticks)

pub loop-bare-preserved : goal.loop-bare-preserved
loop-bare-preserved c = record {
  same = c.loop-bare.invariant.same;
  ticks =
      ticks-go c.args.procs.now c.loop-bare.soup.inst c.args.budget c.args.bare.now c.loop-bare.bare c.count_tick.new.bare c.advance-at.new.self (subst (λ (s : Seen). ProcsAreGiven s.inst c.args.procs.now) (sym c.loop-bare.invariant.same) c.requires.given) c.loop-bare.invariant.ticks c.loop-bare-test.true c.advance-at.ensures.ready
      (sym c.in-Tick.is ∙ c.advance-at.ensures.answer) c.advance-at.ensures.moves c.count_tick.ensures;
}

-- ---- a call

pub make_call-requires-clause-ready : goal.make_call-requires-clause-ready
make_call-requires-clause-ready c =
    (stand-step c.args.procs.now c.loop-bare.soup.inst c.args.budget (ticked c.args.procs.now c.args.budget (player_of c.args.procs.now c.args.bare.now)) c.loop-bare.bare c.advance-at.new.self c.loop-bare.invariant.ticks.way c.advance-at.ensures.ready
    (calls-no-tick (next c.args.procs.now (machine_of c.args.procs.now c.loop-bare.bare.cont)) c.in-Call.call (sym c.in-Call.is ∙ c.advance-at.ensures.answer)) c.advance-at.ensures.moves).ready

pub make_call-requires-clause-given : goal.make_call-requires-clause-given
make_call-requires-clause-given c =
    let bare = with_cont c.loop-bare.bare c.advance-at.new.self in
    let stands =
    stand-step c.args.procs.now c.loop-bare.soup.inst c.args.budget (ticked c.args.procs.now c.args.budget (player_of c.args.procs.now c.args.bare.now)) c.loop-bare.bare c.advance-at.new.self c.loop-bare.invariant.ticks.way c.advance-at.ensures.ready
    (calls-no-tick (next c.args.procs.now (machine_of c.args.procs.now c.loop-bare.bare.cont)) c.in-Call.call (sym c.in-Call.is ∙ c.advance-at.ensures.answer)) c.advance-at.ensures.moves in
    let asks : next c.args.procs.now (machine_of c.args.procs.now bare.cont) ≡ Asks c.in-Call.call =
    asks-next (left_of c.args.budget (player_of c.args.procs.now bare)) _ c.in-Call.call
    (call-asked c.args.procs.now c.args.budget c.loop-bare.bare c.advance-at.new.self c.in-Call.call c.loop-bare-test.true (sym c.in-Call.is ∙ c.advance-at.ensures.answer) c.advance-at.ensures.moves) in
    call-given c.loop-bare.soup.inst c.args.procs.now bare.node (machine_of c.args.procs.now bare.cont) c.in-Call.call stands.ready.node (subst (λ (s : Seen). ProcsAreGiven s.inst c.args.procs.now) (sym c.loop-bare.invariant.same) c.requires.given) stands.ready.given asks

pub make_call-requires-clause-left : goal.make_call-requires-clause-left
make_call-requires-clause-left c = c.loop-bare-test.true

pub make_call-requires-clause-room : goal.make_call-requires-clause-room
make_call-requires-clause-room c = call-has-room c.args.budget c.loop-bare.soup.spare c.args.bare.now c.loop-bare.bare c.loop-bare.invariant.ticks.units c.loop-bare-test.true (subst (λ (s : Seen). c.args.budget - c.args.bare.now.units ≤ s.spare) (sym c.loop-bare.invariant.same) c.requires.room)

pub returns-in-Call : goal.returns-in-Call
returns-in-Call c =
    subst (λ (s : Seen). TurnIsMade c.args.procs.now c.args.budget s c.make_call.new.soup c.args.bare.now c.make_call.new.bare c.make_call.result) c.loop-bare.invariant.same
    (call-made c.args.procs.now c.args.budget c.loop-bare.soup c.make_call.new.soup c.args.bare.now (with_cont c.loop-bare.bare c.advance-at.new.self) c.make_call.new.bare c.in-Call.call c.make_call.result
    (stand-step c.args.procs.now c.loop-bare.soup.inst c.args.budget (ticked c.args.procs.now c.args.budget (player_of c.args.procs.now c.args.bare.now)) c.loop-bare.bare c.advance-at.new.self c.loop-bare.invariant.ticks.way c.advance-at.ensures.ready
    (calls-no-tick (next c.args.procs.now (machine_of c.args.procs.now c.loop-bare.bare.cont)) c.in-Call.call (sym c.in-Call.is ∙ c.advance-at.ensures.answer)) c.advance-at.ensures.moves)
    c.loop-bare.invariant.ticks.units
    (call-asked c.args.procs.now c.args.budget c.loop-bare.bare c.advance-at.new.self c.in-Call.call c.loop-bare-test.true (sym c.in-Call.is ∙ c.advance-at.ensures.answer) c.advance-at.ensures.moves)
    c.loop-bare-test.true
    (call-has-room c.args.budget c.loop-bare.soup.spare c.args.bare.now c.loop-bare.bare c.loop-bare.invariant.ticks.units c.loop-bare-test.true (subst (λ (s : Seen). c.args.budget - c.args.bare.now.units ≤ s.spare) (sym c.loop-bare.invariant.same) c.requires.room))
    c.make_call.ensures.ready c.make_call.ensures.turn)

-- ---- none

pub returns-in-Ended : goal.returns-in-Ended
returns-in-Ended c =
    subst (λ (s : Seen). TurnIsMade c.args.procs.now c.args.budget s c.loop-bare.soup c.args.bare.now (with_cont c.loop-bare.bare c.advance-at.new.self) false) c.loop-bare.invariant.same
    (none-made c.args.procs.now c.args.budget c.loop-bare.soup c.args.bare.now (with_cont c.loop-bare.bare c.advance-at.new.self)
    (stand-step c.args.procs.now c.loop-bare.soup.inst c.args.budget (ticked c.args.procs.now c.args.budget (player_of c.args.procs.now c.args.bare.now)) c.loop-bare.bare c.advance-at.new.self c.loop-bare.invariant.ticks.way c.advance-at.ensures.ready
    (ends-no-tick (next c.args.procs.now (machine_of c.args.procs.now c.loop-bare.bare.cont)) c.in-Ended._value (sym c.in-Ended.is ∙ c.advance-at.ensures.answer)) c.advance-at.ensures.moves)
    c.loop-bare.invariant.ticks.units
    (asks-nothing c.args.procs.now c.args.budget c.loop-bare.soup (player_of c.args.procs.now (with_cont c.loop-bare.bare c.advance-at.new.self))
    (end-asked c.args.procs.now c.args.budget c.loop-bare.bare c.advance-at.new.self c.in-Ended._value c.loop-bare-test.true (sym c.in-Ended.is ∙ c.advance-at.ensures.answer) c.advance-at.ensures.moves)))

pub returns-in-Stopped : goal.returns-in-Stopped
returns-in-Stopped c =
    subst (λ (s : Seen). TurnIsMade c.args.procs.now c.args.budget s c.loop-bare.soup c.args.bare.now (with_cont c.loop-bare.bare c.advance-at.new.self) false) c.loop-bare.invariant.same
    (none-made c.args.procs.now c.args.budget c.loop-bare.soup c.args.bare.now (with_cont c.loop-bare.bare c.advance-at.new.self)
    (stand-step c.args.procs.now c.loop-bare.soup.inst c.args.budget (ticked c.args.procs.now c.args.budget (player_of c.args.procs.now c.args.bare.now)) c.loop-bare.bare c.advance-at.new.self c.loop-bare.invariant.ticks.way c.advance-at.ensures.ready
    (stops-no-tick (next c.args.procs.now (machine_of c.args.procs.now c.loop-bare.bare.cont)) (sym c.in-Stopped.is ∙ c.advance-at.ensures.answer)) c.advance-at.ensures.moves)
    c.loop-bare.invariant.ticks.units
    (asks-nothing c.args.procs.now c.args.budget c.loop-bare.soup (player_of c.args.procs.now (with_cont c.loop-bare.bare c.advance-at.new.self))
    (stop-asked c.args.procs.now c.args.budget c.loop-bare.bare c.advance-at.new.self c.loop-bare-test.true (sym c.in-Stopped.is ∙ c.advance-at.ensures.answer) c.advance-at.ensures.moves)))

pub returns : goal.returns
returns c =
    subst (λ (s : Seen). TurnIsMade c.args.procs.now c.args.budget s c.loop-bare.soup c.args.bare.now c.loop-bare.bare false) c.loop-bare.invariant.same
    (none-made c.args.procs.now c.args.budget c.loop-bare.soup c.args.bare.now c.loop-bare.bare
    (spent-step c.args.procs.now c.loop-bare.soup.inst c.args.budget (ticked c.args.procs.now c.args.budget (player_of c.args.procs.now c.args.bare.now)) c.loop-bare.bare c.loop-bare.invariant.ticks.way c.loop-bare-test.false)
    c.loop-bare.invariant.ticks.units
    (asks-nothing c.args.procs.now c.args.budget c.loop-bare.soup (player_of c.args.procs.now c.loop-bare.bare)
    (spent-asked c.args.procs.now c.args.budget c.loop-bare.bare c.loop-bare-test.false)))
