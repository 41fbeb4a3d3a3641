use Rattle.std.proofs.Common.{◌≡◌, take}
use Rattle.dl_means.proofs.told.has_texts.Given as goal

abbrev pub invariant-loop-at : goal.invariant-loop-at
invariant-loop-at l =
    take l.at l.names.texts ≡ take l.at l.texts
