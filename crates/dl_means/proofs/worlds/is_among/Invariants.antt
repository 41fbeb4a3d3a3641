use Rattle.std.proofs.Common.{◌≡◌, drop}
use Rattle.dl_forms.specs.Context.{is_among}
use Rattle.dl_means.proofs.worlds.is_among.Given as goal

abbrev pub invariant-loop-name : goal.invariant-loop-name
invariant-loop-name l =
    is_among l.text (drop l.name-index l.names) ≡ is_among l.text l.names
