use Rattle.std.proofs.Common.{◌≡◌, drop}
use Rattle.std.specs.List.{list_all}
use Rattle.dl_formed.specs.Decided.{hook_is_formed}
use Rattle.dl_formed.proofs.decide.hooks_are_formed.Given as goal

abbrev pub invariant-loop-hook : goal.invariant-loop-hook
invariant-loop-hook l = list_all (hook_is_formed l.inst) (drop l.hook-index l.hooks) ≡ list_all (hook_is_formed l.inst) l.hooks
