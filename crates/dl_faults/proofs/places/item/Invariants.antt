use Rattle.std.proofs.Common.{◌≡◌, drop, filter, slice_get, unwrap_or}
use Rattle.dl_faults.specs.Places.{begins_with, item}
use Rattle.dl_faults.proofs.places.item.Given as goal

abbrev pub invariant-loop-part : goal.invariant-loop-part
invariant-loop-part l = unwrap_or (slice_get (filter (begins_with l.word) (drop l.part-index l.part-items)) l.left) l.file ≡ item l.file l.word l.n
