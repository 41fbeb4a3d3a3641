use Rattle.std.proofs.Common.{◌≡◌, true, take, map}
use Rattle.std.specs.List.{list_all}
use Rattle.dl_linear.specs.Forms.{coefficient, coefficient_fits}
use Rattle.dl_linear.specs.Seen.{seen}
use Rattle.dl_linear.proofs.linearizer.line_of.Given as goal

abbrev pub invariant-loop-atom : goal.invariant-loop-atom
invariant-loop-atom l =
    (l.coefs ≡ map (coefficient (seen l.sides)) (take l.atom-index l.atoms))
    × (list_all (coefficient_fits (seen l.sides)) (take l.atom-index l.atoms) ≡ true)
