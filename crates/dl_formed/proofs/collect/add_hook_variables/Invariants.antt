use Rattle.std.proofs.Common.{◌≡◌, ◌++◌, drop}
use Rattle.dl_formed.specs.Collected.{hook_variables}
use Rattle.dl_formed.proofs.collect.add_hook_variables.Given as goal

abbrev pub invariant-loop-hook : goal.invariant-loop-hook
invariant-loop-hook l = l.names ++ hook_variables (drop l.hook-index l.hooks) ≡ l.initial.names ++ hook_variables l.hooks
