use Rattle.std.proofs.Common.{◌≡◌, map, take}
use Rattle.dl_forms.specs.Show.{bare}
use Rattle.dl_means.proofs.trees.+bare.Given as goal

abbrev pub invariant-bare_parts-loop-part : goal.invariant-bare_parts-loop-part
invariant-bare_parts-loop-part l =
    l.made ≡ map bare (take l.part-index l.parts)
