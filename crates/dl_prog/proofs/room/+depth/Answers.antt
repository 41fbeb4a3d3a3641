use Rattle.std.proofs.Common.{◌≡◌, ◌+◌, ◌<◌, List, ◌∷◌, length, drop, min, max, sym, ◌∙◌, ap, arith}
use Rattle.std.proofs.lemmas.List.{drop_more}
use Rattle.dl_model.specs.declared.program.Command.{Command}
use Rattle.dl_prog.specs.Ready.{depth_of, command_depth}
use Rattle.dl_prog.proofs.PlaceLemmas.{if-depth, while-depth, depth-more}
use Rattle.dl_prog.proofs.room.+depth.Goals as goal

pub command_depth-returns-in-If : goal.command_depth-returns-in-If
command_depth-returns-in-If t c =
    let are : command_depth c.args.command.now ≡ 1 + max (depth_of c.in-If.yes) (depth_of c.in-If.no) = ap command_depth c.in-If.is ∙ if-depth c.in-If.test c.in-If.yes c.in-If.no in
    let first : c.depth_of.result ≡ min (depth_of c.in-If.yes) 18446744073709551615 =
    c.depth_of.ensures ∙ ap (λ (commands : List Command). min (depth_of commands) 18446744073709551615) c.as_slice.ensures in
    let second : c.depth_of-in-If.result ≡ min (depth_of c.in-If.no) 18446744073709551615 =
    c.depth_of-in-If.ensures ∙ ap (λ (commands : List Command). min (depth_of commands) 18446744073709551615) c.as_slice-in-If.ensures in
    omega (arith, c.saturating_add.ensures, c.greater.ensures)

pub command_depth-returns-in-While : goal.command_depth-returns-in-While
command_depth-returns-in-While t c =
    let are : command_depth c.args.command.now ≡ 1 + depth_of c.in-While.body = ap command_depth c.in-While.is ∙ while-depth c.in-While.test c.in-While.note c.in-While.body in
    let inner : c.depth_of-in-While.result ≡ min (depth_of c.in-While.body) 18446744073709551615 =
    c.depth_of-in-While.ensures ∙ ap (λ (commands : List Command). min (depth_of commands) 18446744073709551615) c.as_slice-in-While.ensures in
    omega (arith, c.saturating_add-in-While.ensures)

pub depth_of-loop-command-preserved : goal.depth_of-loop-command-preserved
depth_of-loop-command-preserved t c =
    let within : c.loop-command.command-index < length c.args.commands.now = omega arith in
    let item = c.command-item.result in
    let rest = depth_of (drop (c.loop-command.command-index + 1) c.args.commands.now) in
    let more : depth_of (drop c.loop-command.command-index c.args.commands.now) ≡ max (command_depth item) rest =
    ap depth_of (drop_more c.args.commands.now c.loop-command.command-index item within
    ∙ ap (λ (x : Command). x ∷ drop (c.loop-command.command-index + 1) c.args.commands.now) (sym c.command-item.is)) ∙ depth-more item (drop (c.loop-command.command-index + 1) c.args.commands.now) in
    let deep : c.command_depth.result ≡ min (command_depth item) 18446744073709551615 = c.command_depth.ensures in
    let new : c.greater-depth.result ≡ max c.command_depth.result c.loop-command.depth = c.greater-depth.ensures in
    (omega arith, omega arith)
