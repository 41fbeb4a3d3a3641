use Rattle.std.proofs.Common.{◌≡◌, ◌++◌, map, drop}
use Rattle.dl_forms.specs.Show.{number}
use Rattle.dl_shown.proofs.declarations.add_numbers.Given as goal

abbrev pub invariant-loop-value : goal.invariant-loop-value
invariant-loop-value l =
    l.parts ++ map (number) (drop l.value-index l.values) ≡ l.initial.parts ++ map (number) l.values
