use Rattle.std.proofs.Common.{◌≡◌, ◌≤◌, ◌+◌, min, drop}
use Rattle.dl_formed.specs.Programs.{points_of_procs}
use Rattle.dl_formed.proofs.points.all_points.Given as goal

abbrev pub invariant-loop-proc : goal.invariant-loop-proc
invariant-loop-proc l =
    (l.points ≤ 18446744073709551615) × (min (l.points + points_of_procs (drop l.proc-index l.procs)) 18446744073709551615 ≡ min (points_of_procs l.procs) 18446744073709551615)
