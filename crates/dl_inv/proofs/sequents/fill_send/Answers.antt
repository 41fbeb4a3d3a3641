use Rattle.std.proofs.Common.{ap, ◌∙◌}
use Rattle.dl_wp.specs.declared.steps.SendStep.{SendStep}
use Rattle.dl_wp.specs.Steps.{send_step}
use Rattle.dl_wp.specs.Captures.{captures, nothing_around}
use Rattle.dl_inv.proofs.sequents.fill_send.Goals as goal

pub fill_sent-filled-requires-clause-quiet : goal.fill_sent-filled-requires-clause-quiet
fill_sent-filled-requires-clause-quiet c = ap (λ (s : SendStep). captures (send_step c.args.decls.now.inst c.args.claim.now.own s) nothing_around c.args.claim.now.formula.now) c.in_ok-step.ensures ∙ c.requires
