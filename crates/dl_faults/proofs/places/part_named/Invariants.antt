use Rattle.std.proofs.Common.{◌≡◌, drop}
use Rattle.std.specs.List.{find}
use Rattle.dl_faults.specs.Places.{begins_with, part_named}
use Rattle.dl_faults.proofs.places.part_named.Given as goal

abbrev pub invariant-loop-part : goal.invariant-loop-part
invariant-loop-part l = find (begins_with l.word) (drop l.part-index l.part-items) ≡ part_named l.word l.tree
