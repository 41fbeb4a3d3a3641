use Rattle.std.proofs.Common.{◌≡◌, IfOk, sym, subst}
use Rattle.dl_top.specs.declared.request.Command.{Command}
use Rattle.dl_top.specs.declared.request.Command.TheVariants.{Run}
use Rattle.dl_top.specs.Endings.{IsOutputOfTree}
use Rattle.dl_top.proofs.output.output_of.Goals as goal

pub returns-in-Run-clause-output : goal.returns-in-Run-clause-output
returns-in-Run-clause-output c =
    let is : Run c.in-Run.serial c.in-Run.budget c.in-Run.order ≡ c.args.command = cc in
    subst (λ (m : Command). IfOk c.report_of.result (λ output. IsOutputOfTree m c.args.tree output.text.items output.ended)) is c.report_of.ensures.output
