use Rattle.std.proofs.Common.{◌≡◌, ◌++◌, map, drop}
use Rattle.dl_shown.specs.Shown.{label_of}
use Rattle.dl_shown.proofs.declarations.world_labels.Given as goal

abbrev pub invariant-loop-label : goal.invariant-loop-label
invariant-loop-label l =
    l.parts ++ map (label_of l.names l.decls) (drop l.label-index l.labels) ≡ l.initial.parts ++ map (label_of l.names l.decls) l.labels
