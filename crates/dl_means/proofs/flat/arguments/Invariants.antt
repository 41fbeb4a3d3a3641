use Rattle.std.proofs.Common.{◌≡◌, map, take}
use Rattle.dl_means.specs.Flat.{flat_argument}
use Rattle.dl_means.proofs.flat.arguments.Given as goal

abbrev pub invariant-loop-part : goal.invariant-loop-part
invariant-loop-part l =
    l.parts ≡ map (flat_argument l.env) (take l.part-index l.part-items)
