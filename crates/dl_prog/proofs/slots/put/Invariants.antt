use Rattle.std.proofs.Common.{◌≡◌, ◌++◌, take, drop, length}
use Rattle.dl_prog.specs.Slots.{put_all}
use Rattle.dl_prog.proofs.slots.put.Given as goal

abbrev pub invariant-loop-at : goal.invariant-loop-at
invariant-loop-at l = (length l.slots ≡ 25) × (l.slots ≡ put_all l.sym l.value (take l.at l.fn.slots) ++ drop l.at l.fn.slots)
