use Rattle.std.proofs.Common.{◌≡◌, ◌++◌, map, drop}
use Rattle.dl_means.specs.Flat.{flat_program}
use Rattle.dl_notation.specs.Trees.{parts_of}
use Rattle.dl_means.proofs.flat.add_programs.Given as goal

abbrev pub invariant-loop-tree : goal.invariant-loop-tree
invariant-loop-tree l =
    l.parts ++ map (λ program. flat_program l.env program (parts_of program)) (drop l.tree-index l.trees) ≡ l.initial.parts ++ map (λ program. flat_program l.env program (parts_of program)) l.trees
