use Rattle.std.proofs.Common.{◌≡◌, ◌≤◌, ◌+◌, min, drop}
use Rattle.dl_formed.specs.Programs.{points_of}
use Rattle.dl_formed.proofs.points.+points.Given as goal

abbrev pub invariant-points_of-loop-command : goal.invariant-points_of-loop-command
invariant-points_of-loop-command l =
    (l.points ≤ 18446744073709551615) × (min (l.points + points_of (drop l.command-index l.commands)) 18446744073709551615 ≡ min (points_of l.commands) 18446744073709551615)
