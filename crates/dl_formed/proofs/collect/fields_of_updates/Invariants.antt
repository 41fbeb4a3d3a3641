use Rattle.std.proofs.Common.{◌≡◌, take}
use Rattle.dl_formed.specs.Decided.{updated_fields}
use Rattle.dl_formed.proofs.collect.fields_of_updates.Given as goal

abbrev pub invariant-loop-update : goal.invariant-loop-update
invariant-loop-update l = l.fields ≡ updated_fields (take l.update-index l.updates)
