use Rattle.std.proofs.Common.{◌≡◌, ◌++◌, map, drop}
use Rattle.dl_forms.specs.Show.{bare}
use Rattle.dl_means.proofs.trees.add_bare.Given as goal

abbrev pub invariant-loop-tree : goal.invariant-loop-tree
invariant-loop-tree l =
    l.parts ++ map (bare) (drop l.tree-index l.trees) ≡ l.initial.parts ++ map (bare) l.trees
