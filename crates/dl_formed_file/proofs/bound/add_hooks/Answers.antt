use Rattle.std.proofs.Common.{◌<◌, length, arith}
use Rattle.std.specs.List.{flat_map}
use Rattle.dl_formed_file.specs.Bound.{with_names, hook_bound}
use Rattle.dl_formed_file.proofs.BoundLemmas.{item-added}
use Rattle.dl_formed_file.proofs.bound.add_hooks.Goals as goal

pub loop-hook-preserved : goal.loop-hook-preserved
loop-hook-preserved c =
    let within : c.loop-hook.hook-index < length c.args.hooks.now = omega arith in
    item-added hook_bound c.loop-hook.set.keys c.add_formula.new.set.keys (with_names c.args.set.now.keys (flat_map hook_bound c.args.hooks.now)) c.args.hooks.now c.loop-hook.hook-index c.hook-item.result
    within c.hook-item.is c.in_ok-add_formula.ensures c.loop-hook.invariant
