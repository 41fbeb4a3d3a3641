use Rattle.std.proofs.Common.{◌≡◌, ◌++◌, drop}
use Rattle.std.specs.List.{flat_map}
use Rattle.dl_inv.specs.Code.{hook_said}
use Rattle.dl_inv.proofs.hooks.add_hooks.Given as goal

abbrev pub invariant-loop-hook : goal.invariant-loop-hook
invariant-loop-hook l =
    l.parts ++ flat_map (hook_said l.decls l.send) (drop l.hook-index l.hooks) ≡ l.initial.parts ++ flat_map (hook_said l.decls l.send) l.hooks
