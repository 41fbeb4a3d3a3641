use Rattle.std.proofs.Common.{◌≤◌, ◌+◌, length, take}
use Rattle.dl_model.specs.Runs.{Leads}
use Rattle.dl_history.specs.Given.{IsGiven}
use Rattle.dl_history.specs.Meant.{meant}
use Rattle.dl_history.proofs.replaying.make_events.Given as goal

abbrev pub invariant-loop-position : goal.invariant-loop-position
invariant-loop-position l = record {
  leads : Leads l.decls (meant l.decls l.initial.config) (take l.position l.entries) (meant l.decls l.config);
  given : IsGiven l.decls l.config;
  room : length l.entries ≤ l.config.state.spare + l.position;
}
