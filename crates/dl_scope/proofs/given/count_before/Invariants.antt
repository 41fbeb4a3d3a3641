use Rattle.std.proofs.Common.{◌≡◌, ◌++◌, drop, take}
use Rattle.dl_notation.specs.Obligations.{before}
use Rattle.dl_scope.proofs.given.count_before.Given as goal

abbrev pub invariant-loop-i : goal.invariant-loop-i
invariant-loop-i l = before l.name l.invariants ≡ take l.i l.invariants ++ before l.name (drop l.i l.invariants)
