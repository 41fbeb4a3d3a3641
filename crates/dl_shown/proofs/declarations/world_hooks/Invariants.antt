use Rattle.std.proofs.Common.{◌≡◌, ◌++◌, map, drop}
use Rattle.dl_shown.specs.Shown.{hook_name}
use Rattle.dl_shown.proofs.declarations.world_hooks.Given as goal

abbrev pub invariant-loop-hook : goal.invariant-loop-hook
invariant-loop-hook l =
    l.parts ++ map (hook_name l.names l.decls) (drop l.hook-index l.hooks) ≡ l.initial.parts ++ map (hook_name l.names l.decls) l.hooks
