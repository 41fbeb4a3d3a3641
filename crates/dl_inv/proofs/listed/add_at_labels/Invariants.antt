use Rattle.std.proofs.Common.{◌≡◌, ◌++◌, drop}
use Rattle.std.specs.List.{flat_map}
use Rattle.dl_inv.specs.Duties.{steps_at_label}
use Rattle.dl_inv.proofs.listed.add_at_labels.Given as goal

abbrev pub invariant-loop-label : goal.invariant-loop-label
invariant-loop-label l =
    l.list ++ flat_map (steps_at_label l.decls l.position) (drop l.label-index l.labels) ≡ l.initial.list ++ flat_map (steps_at_label l.decls l.position) l.labels
