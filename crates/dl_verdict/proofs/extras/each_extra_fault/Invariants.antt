use Rattle.std.proofs.Common.{◌≡◌}
use Rattle.std.specs.List.{flat_map}
use Rattle.dl_faults.specs.Wrong.{joined, earliest}
use Rattle.dl_faults.proofs.Earliest.{to_follow}
use Rattle.dl_verdict.specs.Code.{extra_by_keys}
use Rattle.dl_verdict.proofs.extras.each_extra_fault.Given as goal

abbrev pub invariant-loop-proof : goal.invariant-loop-proof
invariant-loop-proof l = joined l.found (to_follow (extra_by_keys l.keys.keys) l.proofs l.proof-index) ≡ earliest (flat_map (extra_by_keys l.keys.keys) l.proofs)
