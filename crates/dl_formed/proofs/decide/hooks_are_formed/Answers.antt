use Rattle.std.proofs.Common.{◌<◌, length, arith}
use Rattle.dl_formed.specs.Decided.{hook_is_formed}
use Rattle.dl_formed.proofs.Listing.{item-fails, item-passes}
use Rattle.dl_formed.proofs.decide.hooks_are_formed.Goals as goal

pub returns-then-not-branch : goal.returns-then-not-branch
returns-then-not-branch c =
    let within : c.loop-hook.hook-index < length c.args.hooks.now = omega arith in
    item-fails (hook_is_formed c.args.inst.now) c.args.hooks.now c.loop-hook.hook-index c.hook-item.result c.in_ok-hook_is_formed.field-0 within c.hook-item.is c.in_ok-hook_is_formed.ensures c.if-not-branch.true c.loop-hook.invariant

pub loop-hook-preserved : goal.loop-hook-preserved
loop-hook-preserved c =
    let within : c.loop-hook.hook-index < length c.args.hooks.now = omega arith in
    item-passes (hook_is_formed c.args.inst.now) c.args.hooks.now c.loop-hook.hook-index c.hook-item.result c.in_ok-hook_is_formed.field-0 within c.hook-item.is c.in_ok-hook_is_formed.ensures c.if-not-branch.false c.loop-hook.invariant
