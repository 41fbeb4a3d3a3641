use Rattle.std.proofs.Common.{◌≡◌, ◌++◌, take}
use Rattle.dl_formed.specs.Collected.{hook_names}
use Rattle.dl_formed.proofs.collect.add_hooks.Given as goal

abbrev pub invariant-loop-hook : goal.invariant-loop-hook
invariant-loop-hook l = l.names ≡ l.initial.names ++ hook_names (take l.hook-index l.hooks)
