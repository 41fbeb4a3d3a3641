use Rattle.std.proofs.Common.{◌≡◌, ◌+◌, ◌≤◌, List, length, min, refl, ◌∙◌, ap, arith}
use Rattle.dl_model.specs.declared.program.Command.{Command}
use Rattle.dl_formed.specs.Programs.{points_of, command_points}
use Rattle.dl_formed.proofs.Running.{if-points, while-points, sum-ends}
use Rattle.dl_formed.proofs.points.+points.Goals as goal

pub command_points-returns-in-If : goal.command_points-returns-in-If
command_points-returns-in-If t c =
    let are : command_points c.args.command.now ≡ points_of c.in-If.yes + points_of c.in-If.no = ap command_points c.in-If.is ∙ if-points c.in-If.test c.in-If.yes c.in-If.no in
    let first : c.points_of.result ≡ min (points_of c.in-If.yes) 18446744073709551615 =
    c.points_of.ensures ∙ ap (λ (commands : List Command). min (points_of commands) 18446744073709551615) c.as_slice.ensures in
    let second : c.points_of-in-If.result ≡ min (points_of c.in-If.no) 18446744073709551615 =
    c.points_of-in-If.ensures ∙ ap (λ (commands : List Command). min (points_of commands) 18446744073709551615) c.as_slice-in-If.ensures in
    omega (arith, c.saturating_add.ensures)

pub command_points-returns-in-While : goal.command_points-returns-in-While
command_points-returns-in-While t c =
    let are : command_points c.args.command.now ≡ 1 + points_of c.in-While.body = ap command_points c.in-While.is ∙ while-points c.in-While.test c.in-While.note c.in-While.body in
    let inner : c.points_of-in-While.result ≡ min (points_of c.in-While.body) 18446744073709551615 =
    c.points_of-in-While.ensures ∙ ap (λ (commands : List Command). min (points_of commands) 18446744073709551615) c.as_slice-in-While.ensures in
    omega (arith, c.saturating_add-in-While.ensures)

pub points_of-returns : goal.points_of-returns
points_of-returns t c =
    let past : length c.args.commands.now ≤ c.loop-command.command-index = omega arith in
    sum-ends points_of c.args.commands.now c.loop-command.command-index c.loop-command.points refl past c.loop-command.invariant.0 c.loop-command.invariant.1
