use Rattle.std.proofs.Common.{◌≡◌, drop}
use Rattle.std.specs.List.{list_all}
use Rattle.dl_formed.specs.Decided.{hook_is_apart}
use Rattle.dl_formed.proofs.apart.hooks_are_apart.Given as goal

abbrev pub invariant-loop-hook : goal.invariant-loop-hook
invariant-loop-hook l = list_all (hook_is_apart l.names) (drop l.hook-index l.hooks) ≡ list_all (hook_is_apart l.names) l.hooks
