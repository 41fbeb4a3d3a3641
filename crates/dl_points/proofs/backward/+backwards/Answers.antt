use Rattle.std.proofs.Common.{◌≡◌, ◌-◌, refl, sym, ◌∙◌, ap, arith, rules, Err}
use Rattle.dl_term.specs.declared.syntax.Formula.{And, Implies, Not}
use Rattle.dl_term.specs.Measures.{is_oversized}
use Rattle.dl_model.specs.declared.program.Command.{Command}
use Rattle.dl_subst.specs.Substitution.{substituted}
use Rattle.dl_points.specs.Passing.{pre_of_command, pre_of_commands}
use Rattle.dl_inv.specs.declared.sequents.BuildFault.{BuildFault}
use Rattle.dl_inv.proofs.Listing.{where-done}
use Rattle.dl_points.proofs.Backwards.{first-back, next-back, none-back, large-back, choice-made, large-chosen, large-other}
use Rattle.dl_points.proofs.backward.+backwards.Goals as goal

pub pre_over-loop-done-init : goal.pre_over-loop-done-init
pre_over-loop-done-init t c = first-back c.args.commands.now c.reach-count.result c.args.formula.now c.reach-count.ensures.counted

pub pre_over-loop-done-preserved : goal.pre_over-loop-done-preserved
pre_over-loop-done-preserved t c =
    next-back c.args.commands.now c.reach-count.result c.loop-done.done (c.reach-count.result - 1 - c.loop-done.done) c.index-commands-place.result c.loop-done.formula c.command_over.new.formula
    (pre_of_commands c.args.commands.now c.args.formula.now) c.reach-count.ensures.within (omega arith) refl c.index-commands-place.is c.loop-done.invariant c.in_ok-command_over.ensures.made

pub pre_over-returns-clause-made : goal.pre_over-returns-clause-made
pre_over-returns-clause-made t c =
    none-back c.args.commands.now c.reach-count.result c.loop-done.done c.loop-done.formula (pre_of_commands c.args.commands.now c.args.formula.now) (omega arith) c.loop-done.invariant

pub pre_over-returns-in_err-command_over-clause-limit : goal.pre_over-returns-in_err-command_over-clause-limit
pre_over-returns-in_err-command_over-clause-limit t c h =
    let same : c.from_residual.result ≡ Err c.in_err-command_over.field-0.0 = search rules in
    let was : c.command_over.result ≡ Err BuildFault.Limit = cc (h, same, c.in_err-command_over.was) in
    large-back c.args.commands.now c.reach-count.result c.loop-done.done (c.reach-count.result - 1 - c.loop-done.done) c.index-commands-place.result c.loop-done.formula
    (pre_of_commands c.args.commands.now c.args.formula.now) c.reach-count.ensures.counted c.reach-count.ensures.within (omega arith) refl c.index-commands-place.is c.loop-done.invariant (c.command_over.ensures.limit was)

pub command_over-returns-in-Set-clause-made : goal.command_over-returns-in-Set-clause-made
command_over-returns-in-Set-clause-made t c =
    let f = c.args.formula.now in
    where-done c.value_over.result (c.value_over.new.formula ≡ substituted f c.in-Set.local c.in-Set.value) (c.value_over.new.formula ≡ pre_of_command c.args.command.now f) c.value_over.ensures.made
    (λ e. e ∙ ap (λ (x : Command). pre_of_command x f) (sym c.in-Set.is))

pub command_over-returns-in-Set-clause-limit : goal.command_over-returns-in-Set-clause-limit
command_over-returns-in-Set-clause-limit t c h =
    ap (λ (x : Command). is_oversized (pre_of_command x c.args.formula.now)) c.in-Set.is ∙ c.value_over.ensures.limit h

pub command_over-returns-in-Ok-pre_over-clause-made : goal.command_over-returns-in-Ok-pre_over-clause-made
command_over-returns-in-Ok-pre_over-clause-made t c =
    let f = c.args.formula.now in
    let test = c.in-If.test in
    let is = choice-made c.args.command.now c.in-If.test c.in-If.yes c.in-If.no c.as_slice.result.now c.as_slice-in-Ok.result.now f c.in_ok-chosen-in-If.chosen c.pre_over.new.formula c.pre_over-in-Ok.new.formula
    c.in-If.is c.as_slice.ensures c.as_slice-in-Ok.ensures c.in_ok-chosen-in-If.ensures c.in-Ok.ensures.made c.in-Ok-pre_over.ensures.made in
    where-done c.choose.result (c.choose.new.other ≡ And (Implies test c.pre_over.new.formula) (Implies (Not test) c.pre_over-in-Ok.new.formula)) (c.choose.new.other ≡ pre_of_command c.args.command.now f)
    c.choose.ensures.made (λ e. e ∙ is)

pub command_over-returns-in-Ok-pre_over-clause-limit : goal.command_over-returns-in-Ok-pre_over-clause-limit
command_over-returns-in-Ok-pre_over-clause-limit t c h =
    let is = choice-made c.args.command.now c.in-If.test c.in-If.yes c.in-If.no c.as_slice.result.now c.as_slice-in-Ok.result.now c.args.formula.now c.in_ok-chosen-in-If.chosen c.pre_over.new.formula c.pre_over-in-Ok.new.formula
    c.in-If.is c.as_slice.ensures c.as_slice-in-Ok.ensures c.in_ok-chosen-in-If.ensures c.in-Ok.ensures.made c.in-Ok-pre_over.ensures.made in
    sym (ap is_oversized is) ∙ c.choose.ensures.limit h

pub command_over-returns-in-Err-pre_over-clause-limit : goal.command_over-returns-in-Err-pre_over-clause-limit
command_over-returns-in-Err-pre_over-clause-limit t c h =
    large-other c.args.command.now c.in-If.test c.in-If.yes c.in-If.no c.as_slice-in-Ok.result.now c.args.formula.now c.in-If.is c.as_slice-in-Ok.ensures (c.pre_over-in-Ok.ensures.limit (c.in-Err-pre_over.is ∙ h))

pub command_over-returns-in-Err-clause-limit : goal.command_over-returns-in-Err-clause-limit
command_over-returns-in-Err-clause-limit t c h =
    large-chosen c.args.command.now c.in-If.test c.in-If.yes c.in-If.no c.as_slice.result.now c.args.formula.now c.in_ok-chosen-in-If.chosen c.in-If.is c.as_slice.ensures c.in_ok-chosen-in-If.ensures (c.pre_over.ensures.limit (c.in-Err.is ∙ h))
