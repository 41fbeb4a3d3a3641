use Rattle.std.proofs.Common.{◌≡◌, ◌++◌, take}
use Rattle.dl_model.specs.Lookup.{arg_names}
use Rattle.dl_parts.proofs.sends.add_names.Given as goal

abbrev pub invariant-loop-param : goal.invariant-loop-param
invariant-loop-param l = l.names ≡ l.initial.names ++ arg_names (take l.param-index l.params)
