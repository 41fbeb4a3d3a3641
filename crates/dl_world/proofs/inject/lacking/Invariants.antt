use Rattle.std.proofs.Common.{◌≡◌, drop, not}
use Rattle.std.specs.List.{find}
use Rattle.dl_model.specs.Sorts.{has}
use Rattle.dl_world.specs.Injected.{first_lacking}
use Rattle.dl_world.proofs.inject.lacking.Given as goal

abbrev pub invariant-loop-label : goal.invariant-loop-label
invariant-loop-label l = find (λ label. not (has l.large.labels label)) (drop l.label-index l.label-items) ≡ first_lacking l.small l.large
