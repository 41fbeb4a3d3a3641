use Rattle.std.proofs.Common.{◌≡◌, drop}
use Rattle.dl_forms.specs.Context.{look_up}
use Rattle.dl_notation.specs.Rules.{hook_labels}
use Rattle.dl_scope.specs.Walked.{environment}
use Rattle.dl_rules.proofs.seen.hook_label.Given as goal

abbrev pub invariant-loop-label : goal.invariant-loop-label
invariant-loop-label l = look_up l.text (hook_labels (environment l.walk) (drop l.label-index l.walk.labels)) ≡ look_up l.text (hook_labels (environment l.walk) l.walk.labels)
