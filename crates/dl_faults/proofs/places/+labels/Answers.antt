use Rattle.std.proofs.Common.{◌++◌, ◌∙◌, map, ap}
use Rattle.std.specs.List.{flat_map}
use Rattle.dl_faults.specs.Places.{label_lists}
use Rattle.dl_faults.specs.Code.{stood_at}
use Rattle.dl_faults.proofs.Listed.{placed}
use Rattle.dl_faults.proofs.places.+labels.Goals as goal

pub add_label_places-returns-in_ok-add_places_of_parts-in-List : goal.add_label_places-returns-in_ok-add_places_of_parts-in-List
add_label_places-returns-in_ok-add_places_of_parts-in-List t c =
    let g = stood_at c.args.words in
    let old = c.args.places.now in
    let middle = c.add_place.new.places in
    let new = c.add_places_of_parts.new.places in
    placed g old middle new c.args.tree.now c.in-List.items c.in-List.place c.in-List.is c.in_ok-add_place.ensures
    (c.in_ok-add_places_of_parts-in-List.ensures ∙ ap (λ items. middle ++ map g (flat_map label_lists items)) c.as_slice.ensures)
