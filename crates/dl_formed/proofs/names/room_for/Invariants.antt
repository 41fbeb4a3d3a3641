use Rattle.std.proofs.Common.{ℕ, ◌<◌, get_or}
use Rattle.dl_formed.proofs.names.room_for.Given as goal

abbrev pub invariant-loop-name : goal.invariant-loop-name
invariant-loop-name l = (k : ℕ) → k < l.name-index → get_or l.names k 0 < l.room
