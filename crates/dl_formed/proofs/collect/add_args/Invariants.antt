use Rattle.std.proofs.Common.{◌≡◌, ◌++◌, take}
use Rattle.dl_model.specs.Lookup.{arg_names}
use Rattle.dl_formed.proofs.collect.add_args.Given as goal

abbrev pub invariant-loop-arg : goal.invariant-loop-arg
invariant-loop-arg l = l.names ≡ l.initial.names ++ arg_names (take l.arg-index l.args)
