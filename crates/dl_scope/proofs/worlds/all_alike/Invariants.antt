use Rattle.std.proofs.Common.{◌≡◌, drop}
use Rattle.std.specs.Prelude.{◌&&◌}
use Rattle.std.specs.List.{list_all}
use Rattle.dl_forms.specs.Context.{Text, is_among}
use Rattle.dl_notation.specs.Worlds.{same_truth}
use Rattle.dl_scope.proofs.worlds.all_alike.Given as goal

abbrev pub invariant-loop-hook : goal.invariant-loop-hook
invariant-loop-hook l =
    list_all (λ (hook : Text × Text). same_truth (is_among hook.0 l.small.hooks) (is_among hook.0 l.large.hooks && is_among hook.1 l.small.labels)) (drop l.hook-index l.hooks)
    ≡ list_all (λ (hook : Text × Text). same_truth (is_among hook.0 l.small.hooks) (is_among hook.0 l.large.hooks && is_among hook.1 l.small.labels)) l.hooks
