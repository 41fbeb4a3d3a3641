use Rattle.std.proofs.Common.{◌≡◌, take, length}
use Rattle.dl_prog.specs.Slots.{AreZero, syms_of}
use Rattle.dl_prog.proofs.slots.enter_locals.Given as goal

abbrev pub invariant-loop-at : goal.invariant-loop-at
invariant-loop-at l = (length l.slots ≡ 25) × AreZero l.slots × (syms_of (take l.at l.slots) ≡ take l.at l.locals)
