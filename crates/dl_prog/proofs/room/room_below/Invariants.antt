use Rattle.std.proofs.Common.{◌≡◌, min}
use Rattle.dl_prog.specs.Ready.{room_below}
use Rattle.dl_prog.proofs.room.room_below.Given as goal

abbrev pub invariant-loop-number : goal.invariant-loop-number
invariant-loop-number l = l.room ≡ min (room_below l.procs l.number) 18446744073709551615
