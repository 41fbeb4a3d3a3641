use Rattle.std.proofs.Common.{◌≡◌, drop}
use Rattle.std.specs.List.{list_all}
use Rattle.dl_formed.specs.Decided.{has_sort}
use Rattle.dl_formed.proofs.protocols.have_sorts.Given as goal

abbrev pub invariant-loop-param : goal.invariant-loop-param
invariant-loop-param l = list_all has_sort (drop l.param-index l.params) ≡ list_all has_sort l.params
