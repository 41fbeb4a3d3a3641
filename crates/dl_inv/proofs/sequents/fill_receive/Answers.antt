use Rattle.std.proofs.Common.{ap, ◌∙◌}
use Rattle.dl_wp.specs.declared.steps.ReceiveStep.{ReceiveStep}
use Rattle.dl_wp.specs.Steps.{receive_step}
use Rattle.dl_wp.specs.Captures.{captures, nothing_around}
use Rattle.dl_inv.proofs.sequents.fill_receive.Goals as goal

pub fill_received-filled-requires-clause-quiet : goal.fill_received-filled-requires-clause-quiet
fill_received-filled-requires-clause-quiet c = ap (λ (s : ReceiveStep). captures (receive_step c.args.decls.now.inst c.args.claim.now.own s) nothing_around c.args.claim.now.formula.now) c.receive_by-step.ensures ∙ c.requires
