use Rattle.std.proofs.Common.{◌≡◌, ◌++◌, map, filter, drop}
use Rattle.dl_means.specs.Flat.{is_field, flat_field}
use Rattle.dl_notation.specs.Trees.{parts_of}
use Rattle.dl_means.proofs.flat.add_fields.Given as goal

abbrev pub invariant-loop-tree : goal.invariant-loop-tree
invariant-loop-tree l =
    l.parts ++ map (λ part. flat_field l.env part (parts_of part)) (filter is_field (drop l.tree-index l.trees)) ≡ l.initial.parts ++ map (λ part. flat_field l.env part (parts_of part)) (filter is_field l.trees)
