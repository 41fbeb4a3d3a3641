use Rattle.std.proofs.Common.{◌≡◌, map}
use Rattle.std.specs.List.{range_with_len}
use Rattle.dl_faults.specs.Places.{coherence_place}
use Rattle.dl_verdict.proofs.known.coherence_places.Given as goal

abbrev pub invariant-loop-number : goal.invariant-loop-number
invariant-loop-number l = l.places ≡ map (coherence_place l.tree) (range_with_len 0 l.number)
