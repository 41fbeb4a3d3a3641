use Rattle.std.proofs.Common.{◌≡◌, drop}
use Rattle.dl_notation.specs.Obligations.{number_in}
use Rattle.dl_scope.proofs.given.number_in.Given as goal

abbrev pub invariant-loop-part : goal.invariant-loop-part
invariant-loop-part l = number_in (drop l.part-index l.parts) ≡ number_in l.parts
