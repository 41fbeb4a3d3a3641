use Rattle.std.proofs.Common.{◌++◌, ◌≤◌, length, arith}
use Rattle.dl_means.specs.Flags.{flags_in}
use Rattle.dl_means.proofs.CommandLemmas.{next-flags, all-flags, if-added, while-added}
use Rattle.dl_means.proofs.points.+points.Goals as goal

pub add_points-loop-command-preserved : goal.add_points-loop-command-preserved
add_points-loop-command-preserved t c =
    next-flags c.args.commands.now c.loop-command.command-index c.command-item.result c.loop-command.points c.add_points_of.new.points (c.args.points.now ++ flags_in c.args.commands.now) (omega arith) c.command-item.is
    c.loop-command.invariant c.in_ok-add_points_of.ensures

pub add_points-returns : goal.add_points-returns
add_points-returns t c =
    let past : length c.args.commands.now ≤ c.loop-command.command-index = omega arith in
    all-flags c.args.commands.now c.loop-command.command-index c.loop-command.points (c.args.points.now ++ flags_in c.args.commands.now) past c.loop-command.invariant

pub add_points_of-returns-in_ok-add_points-in-If-2 : goal.add_points_of-returns-in_ok-add_points-in-If-2
add_points_of-returns-in_ok-add_points-in-If-2 t c =
    if-added c.args.command.now c.in-If.test c.in-If.yes c.in-If.no c.as_slice.result.now c.as_slice-in-If.result.now c.args.points.now c.add_points.new.points c.add_points-in-If.new.points
    c.in-If.is c.as_slice.ensures c.as_slice-in-If.ensures c.in_ok-add_points-in-If.ensures c.in_ok-add_points-in-If-2.ensures

pub add_points_of-returns-in_ok-add_points-in-While : goal.add_points_of-returns-in_ok-add_points-in-While
add_points_of-returns-in_ok-add_points-in-While t c =
    while-added c.args.command.now c.in-While.test c.in-While.note c.in-While.body c.as_slice-in-While.result.now c.args.points.now c.push-in-While.new.self c.add_points-in-While.new.points
    c.in-While.is c.as_slice-in-While.ensures c.in_ok-push-in-While.ensures.ok c.in_ok-add_points-in-While.ensures
