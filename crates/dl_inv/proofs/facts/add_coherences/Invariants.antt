use Rattle.std.proofs.Common.{◌≡◌, ◌++◌, drop}
use Rattle.std.specs.List.{flat_map}
use Rattle.dl_inv.specs.Facts.{coherence_at}
use Rattle.dl_inv.proofs.facts.add_coherences.Given as goal

abbrev pub invariant-loop-label : goal.invariant-loop-label
invariant-loop-label l =
    l.facts ++ flat_map (coherence_at l.decls) (drop l.label-index l.labels) ≡ l.initial.facts ++ flat_map (coherence_at l.decls) l.labels
