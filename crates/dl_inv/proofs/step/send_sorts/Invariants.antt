use Rattle.std.proofs.Common.{◌≡◌, ◌∷◌, take}
use Rattle.dl_model.specs.Lookup.{arg_sorts}
use Rattle.dl_inv.proofs.step.send_sorts.Given as goal

abbrev pub invariant-loop-param : goal.invariant-loop-param
invariant-loop-param l = l.sorts ≡ l.fn.node ∷ l.fn.node ∷ arg_sorts (take l.param-index l.params)
