use Rattle.std.proofs.Common.{◌≡◌, drop}
use Rattle.dl_model.specs.Lookup.{arg_names}
use Rattle.dl_formed.specs.Decided.{are_below}
use Rattle.dl_formed_file.proofs.own.parameters_are_below.Given as goal

abbrev pub invariant-loop-param : goal.invariant-loop-param
invariant-loop-param l = are_below l.count (arg_names (drop l.param-index l.params)) ≡ are_below l.count (arg_names l.params)
