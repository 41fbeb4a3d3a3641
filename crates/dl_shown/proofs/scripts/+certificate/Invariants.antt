use Rattle.std.proofs.Common.{◌≡◌, ◌∷◌, map, take}
use Rattle.std.specs.Prelude.{codes}
use Rattle.dl_forms.specs.Show.{symbol}
use Rattle.dl_shown.specs.Scripts.{multiple_of}
use Rattle.dl_shown.proofs.scripts.+certificate.Given as goal

abbrev pub invariant-sum-loop-one : goal.invariant-sum-loop-one
invariant-sum-loop-one l =
    l.parts ≡ symbol (codes "add") ∷ map (multiple_of l.names) (take l.one-index l.multiples)
