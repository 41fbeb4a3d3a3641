use Rattle.std.proofs.Common.{◌≡◌, map, take}
use Rattle.dl_run.specs.Ends.{ending_of}
use Rattle.dl_run.proofs.ends.endings.Given as goal

abbrev pub invariant-loop-bare : goal.invariant-loop-bare
invariant-loop-bare l = l.ends.items ≡ map ending_of (take l.bare-index l.nodes)
