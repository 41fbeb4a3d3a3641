use Rattle.std.proofs.Common.{◌≡◌, ◌+◌, length}
use Rattle.dl_turn.specs.Seats.{own_of, IsOut, IsSameSeat}
use Rattle.dl_turn.proofs.tests.append_many.Given as goal

abbrev pub invariant-loop-item : goal.invariant-loop-item
invariant-loop-item g l = IsSameSeat l.initial.seat l.seat × IsOut l.seat × (length (own_of l.seat) ≡ length (own_of l.initial.seat) + l.item)
