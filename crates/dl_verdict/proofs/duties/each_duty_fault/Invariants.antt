use Rattle.std.proofs.Common.{◌≡◌}
use Rattle.std.specs.List.{flat_map}
use Rattle.dl_faults.specs.Wrong.{joined, earliest}
use Rattle.dl_faults.specs.Obligations.{duty_wrong}
use Rattle.dl_faults.proofs.Earliest.{to_follow}
use Rattle.dl_verdict.proofs.duties.each_duty_fault.Given as goal

abbrev pub invariant-loop-duty : goal.invariant-loop-duty
invariant-loop-duty l =
    joined l.found (to_follow (duty_wrong l.known.file.now) l.duties l.duty-index) ≡ earliest (flat_map (duty_wrong l.known.file.now) l.duties)
