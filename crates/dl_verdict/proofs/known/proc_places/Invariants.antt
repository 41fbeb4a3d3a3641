use Rattle.std.proofs.Common.{◌≡◌, map}
use Rattle.std.specs.List.{range_with_len}
use Rattle.dl_faults.specs.Spots.{spots_of}
use Rattle.dl_verdict.proofs.known.proc_places.Given as goal

abbrev pub invariant-loop-number : goal.invariant-loop-number
invariant-loop-number l = l.places ≡ map (spots_of l.tree) (range_with_len 0 l.number)
