use Rattle.std.proofs.Common.{◌≡◌, ◌≤◌, ◌-◌, [], replicate}
use Rattle.dl_trials_report.proofs.read.texts.Given as goal

abbrev pub invariant-loop-count : goal.invariant-loop-count
invariant-loop-count l = record {
  few : l.count ≤ 18;
  empty : l.names ≡ replicate l.count [];
}

abbrev pub decreases-loop-count : goal.decreases-loop-count
decreases-loop-count l = 18 - l.count
