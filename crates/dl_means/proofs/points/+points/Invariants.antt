use Rattle.std.proofs.Common.{◌≡◌, ◌++◌, drop}
use Rattle.dl_means.specs.Flags.{flags_in}
use Rattle.dl_means.proofs.points.+points.Given as goal

abbrev pub invariant-add_points-loop-command : goal.invariant-add_points-loop-command
invariant-add_points-loop-command l =
    l.points ++ flags_in (drop l.command-index l.commands) ≡ l.initial.points ++ flags_in l.commands
