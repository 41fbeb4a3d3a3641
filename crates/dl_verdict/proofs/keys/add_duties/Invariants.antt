use Rattle.std.proofs.Common.{◌≡◌, drop, map}
use Rattle.dl_verdict.specs.Keys.{key_of, with_keys}
use Rattle.dl_verdict.proofs.keys.add_duties.Given as goal

abbrev pub invariant-loop-duty : goal.invariant-loop-duty
invariant-loop-duty l = with_keys l.set.keys (map key_of (drop l.duty-index l.duties)) ≡ with_keys l.initial.set.keys (map key_of l.duties)
