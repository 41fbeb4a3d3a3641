use Rattle.std.proofs.Common.{◌≡◌, ◌++◌, map, filter, drop}
use Rattle.dl_means.specs.Flat.{is_coherence}
use Rattle.dl_forms.specs.Show.{bare}
use Rattle.dl_means.proofs.flat.add_coherences.Given as goal

abbrev pub invariant-loop-tree : goal.invariant-loop-tree
invariant-loop-tree l =
    l.parts ++ map (bare) (filter is_coherence (drop l.tree-index l.trees)) ≡ l.initial.parts ++ map (bare) (filter is_coherence l.trees)
