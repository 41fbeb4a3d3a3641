use Rattle.std.proofs.Common.{◌≤◌, length, sym, ◌∙◌, arith, to_z, w64}
use Rattle.std.proofs.lemmas.List.{at_drop_all}
use Rattle.dl_term.specs.Names.{no_names}
use Rattle.dl_prog.specs.Slots.{found}
use Rattle.dl_prog.proofs.SlotLemmas.{number-found}
use Rattle.dl_prog.proofs.slots.number_of.Goals as goal

pub returns : goal.returns
returns c =
    let past : length c.args.slots.now ≤ c.loop-slot.slot-index = omega arith in
    sym (at_drop_all (λ xs. found xs c.args.sym (to_z w64 c.loop-slot.number-bits)) c.args.slots.now c.loop-slot.slot-index past)
    ∙ (c.loop-slot.invariant ∙ sym (number-found c.args.slots.now (no_names 0) c.args.sym))
