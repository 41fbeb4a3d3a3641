use Rattle.std.proofs.Common.{sym, ap, ◌∙◌}
use Rattle.dl_faults.specs.Places.{parts_of}
use Rattle.dl_faults.proofs.Listed.{parts-List}
use Rattle.dl_faults.proofs.places.parts_of.Goals as goal

pub returns-in-List : goal.returns-in-List
returns-in-List c = c.as_slice.ensures ∙ (sym (parts-List c.in-List.items c.in-List.place) ∙ ap parts_of (sym c.in-List.is))
