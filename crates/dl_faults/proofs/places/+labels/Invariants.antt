use Rattle.std.proofs.Common.{◌≡◌, ◌++◌, map, drop}
use Rattle.std.specs.List.{flat_map}
use Rattle.dl_faults.specs.Places.{label_lists}
use Rattle.dl_faults.specs.Code.{stood_at}
use Rattle.dl_faults.proofs.places.+labels.Given as goal

abbrev pub invariant-add_places_of_parts-loop-part : goal.invariant-add_places_of_parts-loop-part
invariant-add_places_of_parts-loop-part l =
    l.places ++ map (stood_at l.words) (flat_map label_lists (drop l.part-index l.parts)) ≡ l.initial.places ++ map (stood_at l.words) (flat_map label_lists l.parts)
