use Rattle.std.proofs.Common.{◌≡◌, pos, drop}
use Rattle.dl_prog.specs.Slots.{found}
use Rattle.dl_prog.proofs.slots.number_of.Given as goal

abbrev pub invariant-loop-slot : goal.invariant-loop-slot
invariant-loop-slot l = found (drop l.slot-index l.slots) l.sym l.number ≡ found l.slots l.sym (pos 0)
