use Rattle.std.proofs.Common.{◌≡◌, ◌≤◌, ◌+◌, min, drop}
use Rattle.dl_triples.specs.Commands.{points_of_commands}
use Rattle.dl_points.proofs.points.+count.Given as goal

abbrev pub invariant-count_all-loop-command : goal.invariant-count_all-loop-command
invariant-count_all-loop-command l =
    (l.points ≤ 18446744073709551615) × (min (l.points + points_of_commands (drop l.command-index l.commands)) 18446744073709551615 ≡ min (points_of_commands l.commands) 18446744073709551615)
