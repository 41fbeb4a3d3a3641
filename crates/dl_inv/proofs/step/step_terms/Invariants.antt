use Rattle.std.proofs.Common.{◌≡◌, ◌∷◌, take}
use Rattle.dl_inv.proofs.step.step_terms.Given as goal

abbrev pub invariant-loop-arg : goal.invariant-loop-arg
invariant-loop-arg l = l.terms ≡ l.node ∷ l.other ∷ take l.arg-index l.args
