use Rattle.std.proofs.Common.{subst}
use Rattle.dl_model.specs.Runs.{Config, Leads, initial}
use Rattle.dl_history.specs.Meant.{meant}
use Rattle.dl_history.specs.Replayed.{IsFaultAt}
use Rattle.dl_history.proofs.Replays.{fault-is}
use Rattle.dl_history.proofs.replaying.replay.Goals as goal

pub returns-in-Some-clause-fault : goal.returns-in-Some-clause-fault
returns-in-Some-clause-fault c = λ position e.
    let d = c.args.decls.now in
    let es = c.args.entries.now in
    subst (λ k. IsFaultAt d (initial d) es k) (fault-is c.in-Some.position position e) (subst (λ (b : Config). IsFaultAt d b es c.in-Some.position) c.in_ok-config.ensures.first c.in-Some.ensures)

pub returns-in-None-clause-run : goal.returns-in-None-clause-run
returns-in-None-clause-run c =
    let d = c.args.decls.now in
    subst (λ (b : Config). Leads d b c.args.entries.now (meant d c.make_events.new.config)) c.in_ok-config.ensures.first c.in-None.ensures.0

pub returns-in-None-clause-given : goal.returns-in-None-clause-given
returns-in-None-clause-given c = c.in-None.ensures.1
