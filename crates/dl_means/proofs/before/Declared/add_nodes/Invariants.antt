use Rattle.std.proofs.Common.{◌≡◌, drop}
use Rattle.dl_means.specs.Before.{with_nodes}
use Rattle.dl_means.proofs.before.Declared.add_nodes.Given as goal

abbrev pub invariant-loop-name : goal.invariant-loop-name
invariant-loop-name l =
    with_nodes l.self (drop l.name-index l.names) ≡ with_nodes l.initial.self l.names
