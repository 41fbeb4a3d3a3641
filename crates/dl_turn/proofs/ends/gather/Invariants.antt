use Rattle.std.proofs.Common.{◌≡◌, ◌++◌, List, map}
use Rattle.dl_turn.specs.declared.lock.Seat.{Seat}
use Rattle.dl_turn.specs.Dealt.{claim, AreOut, IsSameView}
use Rattle.dl_turn.proofs.ends.gather.Given as goal

abbrev pub invariant-loop-seat : goal.invariant-loop-seat
invariant-loop-seat g l =
    (l.last.table_id ≡ l.initial.last.table_id) × IsSameView l.initial.last.me.0 l.last.me.0
    × AreOut l.table.shared.table_id l.seats.items
    × ((back : List (Seat g.row.T.Denot g.row.T-Item.Denot g.row.T-Ground.Denot)) × (l.seats.items ++ back ≡ l.initial.seats.items) × (l.last.me.0.joined ≡ map claim back ++ l.initial.last.me.0.joined))

abbrev pub decreases-loop-seat : goal.decreases-loop-seat
decreases-loop-seat g l = goal.left-loop-seat g l
