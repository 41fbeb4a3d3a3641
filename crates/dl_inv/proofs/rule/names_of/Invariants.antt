use Rattle.std.proofs.Common.{◌≡◌, take}
use Rattle.dl_model.specs.Lookup.{arg_names}
use Rattle.dl_inv.proofs.rule.names_of.Given as goal

abbrev pub invariant-loop-param : goal.invariant-loop-param
invariant-loop-param l = l.names ≡ arg_names (take l.param-index l.params)
