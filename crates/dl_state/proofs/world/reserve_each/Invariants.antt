use Rattle.dl_state.proofs.SlotLemmas.{Growing}
use Rattle.dl_state.proofs.world.reserve_each.Given as goal

abbrev pub invariant-loop-slot : goal.invariant-loop-slot
invariant-loop-slot l = Growing l.more l.initial.labels l.labels l.slot-index
