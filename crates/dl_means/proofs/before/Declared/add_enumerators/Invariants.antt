use Rattle.std.proofs.Common.{◌≡◌, drop}
use Rattle.dl_means.specs.Before.{with_enumerators}
use Rattle.dl_means.proofs.before.Declared.add_enumerators.Given as goal

abbrev pub invariant-loop-at : goal.invariant-loop-at
invariant-loop-at l =
    with_enumerators l.self l.at (drop l.at l.names) ≡ with_enumerators l.initial.self 0 l.names
