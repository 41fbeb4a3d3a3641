use Rattle.std.proofs.Common.{get_or, ◌∙◌, subst, arith}
use Rattle.std.specs.List.{All}
use Rattle.std.proofs.lemmas.List.{take_all}
use Rattle.dl_state.specs.Kept.{statelet_of, HasSpare}
use Rattle.dl_state.proofs.SlotLemmas.{grow-kept, map-same, grown}
use Rattle.dl_state.proofs.world.reserve_each.Goals as goal

pub reserve-requires : goal.reserve-requires
reserve-requires c = grow-kept c.args.more c.args.labels.now c.loop-slot.labels c.loop-slot.invariant.same c.requires c.loop-slot.slot-index c.slot-item.result (omega arith)

pub returns-in_err-reserve-clause-same : goal.returns-in_err-reserve-clause-same
returns-in_err-reserve-clause-same c =
    map-same statelet_of c.loop-slot.labels c.loop-slot.slot-index c.slot-item.result (record { board = (get_or c.loop-slot.labels c.loop-slot.slot-index c.slot-item.result).board; messages = c.reserve.new.self }) (omega arith)
    (λ i. record { fields = (get_or c.loop-slot.labels c.loop-slot.slot-index c.slot-item.result).board; soup = c.in_err-reserve.ensures.messages i })
    ∙ c.loop-slot.invariant.same

pub loop-slot-preserved : goal.loop-slot-preserved
loop-slot-preserved c =
    grown c.args.more c.args.labels.now c.loop-slot.labels c.loop-slot.slot-index c.slot-item.result (record { board = (get_or c.loop-slot.labels c.loop-slot.slot-index c.slot-item.result).board; messages = c.reserve.new.self }) c.loop-slot.invariant (omega arith)
    (λ i. record { fields = (get_or c.loop-slot.labels c.loop-slot.slot-index c.slot-item.result).board; soup = c.in_ok-reserve.ensures.messages i })
    c.in_ok-reserve.ensures.ok

pub returns-clause-room : goal.returns-clause-room
returns-clause-room c = subst (All (HasSpare c.args.more)) (take_all c.loop-slot.slot-index c.loop-slot.labels (omega arith)) c.loop-slot.invariant.room
