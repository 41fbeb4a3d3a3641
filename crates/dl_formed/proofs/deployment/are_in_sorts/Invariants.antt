use Rattle.std.proofs.Common.{◌≡◌, drop}
use Rattle.dl_model.specs.Lookup.{arg_sorts}
use Rattle.dl_model.specs.Sorts.{all_in_sorts}
use Rattle.dl_formed.proofs.deployment.are_in_sorts.Given as goal

abbrev pub invariant-loop-place : goal.invariant-loop-place
invariant-loop-place l = all_in_sorts (arg_sorts (drop l.place l.params)) (drop l.place l.constants) ≡ all_in_sorts (arg_sorts l.params) l.constants
