use Rattle.std.proofs.Common.{◌≡◌, ◌||◌, Bool, sym, ◌∙◌, ap}
use Rattle.std.specs.List.{list_all}
use Rattle.dl_points.specs.Passing.{command_passes}
use Rattle.dl_points.proofs.Backwards.{if-passes, passes-first, passes-second}
use Rattle.dl_points.proofs.backward.+passes.Goals as goal

pub passes-returns-then-all_pass : goal.passes-returns-then-all_pass
passes-returns-then-all_pass t c =
    let first : Bool = list_all command_passes c.in-If.yes in
    let second : Bool = list_all command_passes c.in-If.no in
    let are : command_passes c.args.command.now ≡ (first || second) = ap command_passes c.in-If.is ∙ if-passes c.in-If.test c.in-If.yes c.in-If.no in
    let run : c.all_pass.result ≡ first = c.all_pass.ensures ∙ ap (list_all command_passes) c.as_slice.ensures in
    passes-first first second c.all_pass.result run c.if-all_pass.true ∙ sym are

pub passes-returns-else-all_pass : goal.passes-returns-else-all_pass
passes-returns-else-all_pass t c =
    let first : Bool = list_all command_passes c.in-If.yes in
    let second : Bool = list_all command_passes c.in-If.no in
    let are : command_passes c.args.command.now ≡ (first || second) = ap command_passes c.in-If.is ∙ if-passes c.in-If.test c.in-If.yes c.in-If.no in
    let run : c.all_pass.result ≡ first = c.all_pass.ensures ∙ ap (list_all command_passes) c.as_slice.ensures in
    let more : c.all_pass-in-If.result ≡ second = c.all_pass-in-If.ensures ∙ ap (list_all command_passes) c.as_slice-in-If.ensures in
    passes-second first second c.all_pass.result c.all_pass-in-If.result run c.if-all_pass.false more ∙ sym are
