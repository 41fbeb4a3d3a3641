use Rattle.std.proofs.Common.{◌≡◌, drop}
use Rattle.std.specs.List.{list_all}
use Rattle.dl_formed.specs.Scoped.{scope_of}
use Rattle.dl_formed.specs.Decided.{update_is_formed}
use Rattle.dl_formed.proofs.protocols.updates_are_formed.Given as goal

abbrev pub invariant-loop-update : goal.invariant-loop-update
invariant-loop-update l = list_all (update_is_formed (scope_of l.known)) (drop l.update-index l.updates) ≡ list_all (update_is_formed (scope_of l.known)) l.updates
