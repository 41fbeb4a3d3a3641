use Rattle.std.proofs.Common.{◌<◌, ◌≤◌, List, length, refl, subst, arith}
use Rattle.std.proofs.lemmas.List.{take_all}
use Rattle.dl_model.specs.declared.history.Entry.{Entry}
use Rattle.dl_model.specs.Runs.{Leads}
use Rattle.dl_history.specs.Meant.{meant}
use Rattle.dl_history.proofs.Replays.{leads-next, fault-next}
use Rattle.dl_history.proofs.replaying.make_events.Goals as goal

pub loop-position-init : goal.loop-position-init
loop-position-init c = record { leads = refl; given = c.requires.given; room = omega (arith, c.requires.room) }

pub returns-then-not-make_event : goal.returns-then-not-make_event
returns-then-not-make_event c =
    let d = c.args.decls.now in
    let within : c.loop-position.position < length c.args.entries.now = omega arith in
    fault-next d c.args.entries.now c.loop-position.position _ (meant d c.args.config.now) (meant d c.loop-position.config) within c.loop-position.invariant.leads (c.make_event.ensures.refused c.if-not-make_event.true)

pub loop-position-preserved : goal.loop-position-preserved
loop-position-preserved c =
    let d = c.args.decls.now in
    let within : c.loop-position.position < length c.args.entries.now = omega arith in
    record {
      leads = leads-next d c.args.entries.now c.loop-position.position _ (meant d c.args.config.now) (meant d c.loop-position.config) (meant d c.make_event.new.config) within c.loop-position.invariant.leads
          (c.make_event.ensures.made c.if-not-make_event.false);
      given = c.make_event.ensures.given c.if-not-make_event.false;
      room = omega (arith, c.make_event.ensures.room, c.loop-position.invariant.room);
    }

pub returns : goal.returns
returns c =
    let d = c.args.decls.now in
    let past : length c.args.entries.now ≤ c.loop-position.position = omega arith in (
      subst (λ (es : List Entry). Leads d (meant d c.args.config.now) es (meant d c.loop-position.config)) (take_all c.loop-position.position c.args.entries.now past) c.loop-position.invariant.leads,
      c.loop-position.invariant.given,
    )
