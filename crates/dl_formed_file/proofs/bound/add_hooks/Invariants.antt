use Rattle.std.proofs.Common.{◌≡◌, drop}
use Rattle.std.specs.List.{flat_map}
use Rattle.dl_formed_file.specs.Bound.{with_names, hook_bound}
use Rattle.dl_formed_file.proofs.bound.add_hooks.Given as goal

abbrev pub invariant-loop-hook : goal.invariant-loop-hook
invariant-loop-hook l = with_names l.set.keys (flat_map hook_bound (drop l.hook-index l.hooks)) ≡ with_names l.initial.set.keys (flat_map hook_bound l.hooks)
