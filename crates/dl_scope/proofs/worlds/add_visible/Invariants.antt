use Rattle.std.proofs.Common.{◌≡◌, ◌++◌, drop}
use Rattle.dl_notation.specs.Worlds.{visible}
use Rattle.dl_scope.specs.Walked.{environment}
use Rattle.dl_scope.proofs.worlds.add_visible.Given as goal

abbrev pub invariant-loop-invariant : goal.invariant-loop-invariant
invariant-loop-invariant l = l.texts ++ visible (environment l.walk) l.world (drop l.invariant-index l.invariants) ≡ l.initial.texts ++ visible (environment l.walk) l.world l.invariants
