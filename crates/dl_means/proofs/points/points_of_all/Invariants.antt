use Rattle.std.proofs.Common.{◌≡◌, take}
use Rattle.dl_means.specs.Flags.{flags_of_all}
use Rattle.dl_means.proofs.points.points_of_all.Given as goal

abbrev pub invariant-loop-proc : goal.invariant-loop-proc
invariant-loop-proc l =
    l.all ≡ flags_of_all (take l.proc-index l.procs)
