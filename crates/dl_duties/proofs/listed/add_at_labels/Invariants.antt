use Rattle.std.proofs.Common.{◌≡◌, ◌++◌, drop}
use Rattle.std.specs.List.{flat_map}
use Rattle.dl_duties.specs.Moves.{kept_duty, steps_at}
use Rattle.dl_duties.proofs.listed.add_at_labels.Given as goal

abbrev pub invariant-loop-label : goal.invariant-loop-label
invariant-loop-label l =
    l.list ++ flat_map (steps_at l.decls (kept_duty l.kept) l.formula) (drop l.label-index l.labels) ≡ l.initial.list ++ flat_map (steps_at l.decls (kept_duty l.kept) l.formula) l.labels
