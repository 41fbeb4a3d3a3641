use Rattle.std.proofs.Common.{◌≡◌, drop}
use Rattle.dl_model.specs.Lookup.{arg_names}
use Rattle.dl_model.specs.Sorts.{has}
use Rattle.dl_formed_file.proofs.own.has_parameter.Given as goal

abbrev pub invariant-loop-param : goal.invariant-loop-param
invariant-loop-param l = has (arg_names (drop l.param-index l.params)) l.name ≡ has (arg_names l.params) l.name
