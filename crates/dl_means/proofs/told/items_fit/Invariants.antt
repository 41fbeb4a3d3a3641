use Rattle.std.proofs.Common.{drop}
use Rattle.dl_means.specs.Facts.{ItemsFit}
use Rattle.dl_means.proofs.told.items_fit.Given as goal

abbrev pub invariant-loop-i : goal.invariant-loop-i
invariant-loop-i l =
    ItemsFit l.names l.file l.env (drop l.i l.trees) (drop l.i l.items) → ItemsFit l.names l.file l.initial.env l.trees l.items
