use Rattle.std.proofs.Common.{◌≡◌, ◌++◌, drop}
use Rattle.dl_notation.specs.Worlds.{coherent}
use Rattle.dl_scope.specs.Walked.{environment}
use Rattle.dl_scope.proofs.worlds.add_coherent.Given as goal

abbrev pub invariant-loop-label : goal.invariant-loop-label
invariant-loop-label l = l.texts ++ coherent (environment l.walk) (drop l.label-index l.labels) ≡ l.initial.texts ++ coherent (environment l.walk) l.labels
