use Rattle.std.proofs.Common.{◌≡◌}
use Rattle.std.specs.List.{flat_map, enumerate_from}
use Rattle.dl_faults.specs.Wrong.{joined, earliest}
use Rattle.dl_faults.specs.Code.{touched_wrong_among}
use Rattle.dl_faults.proofs.Earliest.{to_come}
use Rattle.dl_faults.proofs.spoken.each_touched_fault.Given as goal

abbrev pub invariant-loop-n : goal.invariant-loop-n
invariant-loop-n l =
    joined l.found (to_come (touched_wrong_among l.callee l.whole l.places) l.labels l.n)
    ≡ earliest (flat_map (touched_wrong_among l.callee l.whole l.places) (enumerate_from 0 l.labels))
