use Rattle.std.proofs.Common.{◌≡◌, take}
use Rattle.dl_soup.proofs.shapes.copy_shape.Given as goal

abbrev pub invariant-loop-fields : goal.invariant-loop-fields
invariant-loop-fields l = l.labels ≡ take l.fields-index l.fields-items
