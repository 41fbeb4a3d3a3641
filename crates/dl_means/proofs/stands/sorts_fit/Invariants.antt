use Rattle.std.proofs.Common.{◌≡◌, drop}
use Rattle.std.specs.Prelude.{true}
use Rattle.std.specs.List.{list_all}
use Rattle.dl_means.specs.Stands.{sort_fits}
use Rattle.dl_means.proofs.stands.sorts_fit.Given as goal

abbrev pub invariant-loop-sort : goal.invariant-loop-sort
invariant-loop-sort l =
    list_all sort_fits (drop l.sort-index l.sorts) ≡ true → list_all sort_fits l.sorts ≡ true
