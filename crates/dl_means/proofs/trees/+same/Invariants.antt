use Rattle.std.proofs.Common.{◌≡◌, take}
use Rattle.dl_means.proofs.trees.+same.Given as goal

abbrev pub invariant-same_parts-loop-i : goal.invariant-same_parts-loop-i
invariant-same_parts-loop-i l =
    take l.i l.left ≡ take l.i l.right
