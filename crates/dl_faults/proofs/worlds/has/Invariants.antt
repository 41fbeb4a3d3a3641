use Rattle.std.proofs.Common.{◌≡◌, ◌==◌, drop}
use Rattle.std.specs.List.{list_any}
use Rattle.dl_model.specs.Sorts.{has}
use Rattle.dl_faults.proofs.worlds.has.Given as goal

abbrev pub invariant-loop-position : goal.invariant-loop-position
invariant-loop-position l = list_any (λ m. l.n == m) (drop l.position-index l.positions) ≡ has l.positions l.n
