use Rattle.std.proofs.Common.{◌≡◌, ◌+◌, ◌≤◌, List, length, min, refl, ◌∙◌, ap, arith}
use Rattle.dl_model.specs.declared.program.Command.{Command}
use Rattle.dl_triples.specs.Commands.{points_of_commands, command_points}
use Rattle.dl_triples.proofs.Running.{if-points, while-points, sum-ends}
use Rattle.dl_points.proofs.points.+count.Goals as goal

pub count-returns-in-If : goal.count-returns-in-If
count-returns-in-If t c =
    let are : command_points c.args.command.now ≡ points_of_commands c.in-If.yes + points_of_commands c.in-If.no = ap command_points c.in-If.is ∙ if-points c.in-If.test c.in-If.yes c.in-If.no in
    let first : c.count_all.result ≡ min (points_of_commands c.in-If.yes) 18446744073709551615 =
    c.count_all.ensures ∙ ap (λ (commands : List Command). min (points_of_commands commands) 18446744073709551615) c.as_slice.ensures in
    let second : c.count_all-in-If.result ≡ min (points_of_commands c.in-If.no) 18446744073709551615 =
    c.count_all-in-If.ensures ∙ ap (λ (commands : List Command). min (points_of_commands commands) 18446744073709551615) c.as_slice-in-If.ensures in
    omega (arith, c.saturating_add.ensures)

pub count-returns-in-While : goal.count-returns-in-While
count-returns-in-While t c =
    let are : command_points c.args.command.now ≡ 1 + points_of_commands c.in-While.body = ap command_points c.in-While.is ∙ while-points c.in-While.test c.in-While.note c.in-While.body in
    let inner : c.count_all-in-While.result ≡ min (points_of_commands c.in-While.body) 18446744073709551615 =
    c.count_all-in-While.ensures ∙ ap (λ (commands : List Command). min (points_of_commands commands) 18446744073709551615) c.as_slice-in-While.ensures in
    omega (arith, c.saturating_add-in-While.ensures)

pub count_all-returns : goal.count_all-returns
count_all-returns t c =
    let past : length c.args.commands.now ≤ c.loop-command.command-index = omega arith in
    sum-ends points_of_commands c.args.commands.now c.loop-command.command-index c.loop-command.points refl past c.loop-command.invariant.0 c.loop-command.invariant.1
