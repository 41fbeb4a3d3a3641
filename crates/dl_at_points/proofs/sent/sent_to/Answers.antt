use Rattle.dl_term.specs.Measures.{is_oversized}
use Rattle.dl_inv.proofs.Listing.{where-done}
use Rattle.dl_triples.specs.Obligations.{sending, sent_sequent}
use Rattle.dl_triples.specs.Points.{next_of, point_at}
use Rattle.dl_wp.specs.Before.{before_sent}
use Rattle.dl_wp.specs.Captures.{captures, nothing_around}
use Rattle.dl_wp.specs.Steps.{send_step}
use Rattle.dl_wp.specs.declared.steps.SendStep.{SendStep}
use Rattle.std.proofs.Common.{None, ap, sym, ◌∙◌, ◌≡◌}
use Rattle.dl_at_points.proofs.sent.sent_to.Goals as goal

pub sent_by-filled-requires-clause-quiet : goal.sent_by-filled-requires-clause-quiet
sent_by-filled-requires-clause-quiet c =
    ap (λ (s : SendStep). captures (send_step c.args.decls.now.inst None s) nothing_around (next_of (point_at c.args.proc.now c.args.point))) c.in_ok-step.ensures ∙ c.requires.quiet

pub returns-clause-made : goal.returns-clause-made
returns-clause-made c =
    let decls = c.args.decls.now in
    let proc = c.args.proc.now in
    where-done c.sent_by-filled.result (c.sent_by-filled.new.made ≡ sent_sequent decls proc c.args.note.now c.args.label c.args.tag c.in_ok-step.step (next_of (point_at proc c.args.point))) (c.sent_by-filled.new.made ≡ sent_sequent decls proc c.args.note.now c.args.label c.args.tag (sending c.args.label c.args.tag c.args.to.now c.args.args.now) (next_of (point_at proc c.args.point))) c.sent_by-filled.ensures.made
    (λ e. e ∙ ap (λ (s : SendStep). sent_sequent decls proc c.args.note.now c.args.label c.args.tag s (next_of (point_at proc c.args.point))) c.in_ok-step.ensures)

pub returns-clause-limit : goal.returns-clause-limit
returns-clause-limit c h =
    sym (ap (λ (s : SendStep). is_oversized (before_sent c.args.decls.now.inst None s (next_of (point_at c.args.proc.now c.args.point)))) c.in_ok-step.ensures) ∙ c.sent_by-filled.ensures.limit h
