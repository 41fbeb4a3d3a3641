use Rattle.std.proofs.Common.{◌≡◌, ◌++◌, map, drop}
use Rattle.dl_means.specs.Flat.{flat_constant}
use Rattle.dl_means.proofs.flat.add_constants.Given as goal

abbrev pub invariant-loop-tree : goal.invariant-loop-tree
invariant-loop-tree l =
    l.parts ++ map (flat_constant l.env) (drop l.tree-index l.trees) ≡ l.initial.parts ++ map (flat_constant l.env) l.trees
