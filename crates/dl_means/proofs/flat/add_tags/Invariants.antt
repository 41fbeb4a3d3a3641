use Rattle.std.proofs.Common.{◌≡◌, ◌++◌, map, filter, drop}
use Rattle.dl_means.specs.Flat.{is_tag, flat_tag}
use Rattle.dl_notation.specs.Trees.{parts_of}
use Rattle.dl_means.proofs.flat.add_tags.Given as goal

abbrev pub invariant-loop-tree : goal.invariant-loop-tree
invariant-loop-tree l =
    l.parts ++ map (λ part. flat_tag l.env part (parts_of part)) (filter is_tag (drop l.tree-index l.trees)) ≡ l.initial.parts ++ map (λ part. flat_tag l.env part (parts_of part)) (filter is_tag l.trees)
