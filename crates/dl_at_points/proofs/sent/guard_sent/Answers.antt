use Rattle.dl_triples.specs.Obligations.{guard_sequent}
use Rattle.dl_wp.specs.declared.steps.SendStep.{SendStep}
use Rattle.std.proofs.Common.{ap, ◌∙◌}
use Rattle.dl_at_points.proofs.sent.guard_sent.Goals as goal

pub returns-clause-made : goal.returns-clause-made
returns-clause-made c =
    let decls = c.args.decls.now in
    let proc = c.args.proc.now in
    c.in_ok-filled.ensures ∙ ap (λ (s : SendStep). guard_sequent decls proc c.args.note.now c.args.label c.args.tag s) c.in_ok-step.ensures
