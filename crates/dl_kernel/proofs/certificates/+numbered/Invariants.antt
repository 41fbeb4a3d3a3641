use Rattle.std.proofs.Common.{◌≡◌, take, map}
use Rattle.dl_kernel.specs.Lines.{renumbered}
use Rattle.dl_kernel.proofs.certificates.+numbered.Given as goal

abbrev pub invariant-numbered_parts-loop-part : goal.invariant-numbered_parts-loop-part
invariant-numbered_parts-loop-part l = l.made ≡ map (renumbered l.facts) (take l.part-index l.parts)
