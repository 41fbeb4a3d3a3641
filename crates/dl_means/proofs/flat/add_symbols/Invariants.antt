use Rattle.std.proofs.Common.{◌≡◌, ◌++◌, map, drop}
use Rattle.dl_forms.specs.Show.{symbol}
use Rattle.dl_means.proofs.flat.add_symbols.Given as goal

abbrev pub invariant-loop-text : goal.invariant-loop-text
invariant-loop-text l =
    l.parts ++ map (symbol) (drop l.text-index l.texts) ≡ l.initial.parts ++ map (symbol) l.texts
