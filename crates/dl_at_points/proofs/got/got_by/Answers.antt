use Rattle.dl_inv.specs.Obligations.{shows}
use Rattle.dl_inv.specs.Steps.{receive_hypotheses}
use Rattle.dl_model.specs.declared.sequent.Sequent.{Sequent}
use Rattle.dl_term.specs.Measures.{is_oversized}
use Rattle.dl_inv.proofs.Listing.{where-done}
use Rattle.dl_parts.proofs.Shown.{shown-with}
use Rattle.dl_triples.specs.Obligations.{facts_at, got_sequent, known_with, put}
use Rattle.dl_triples.specs.Points.{next_of, point_at}
use Rattle.dl_wp.specs.Before.{before_received}
use Rattle.dl_wp.specs.Captures.{captures, nothing_around}
use Rattle.dl_wp.specs.Steps.{receive_step}
use Rattle.dl_wp.specs.declared.steps.ReceiveStep.{ReceiveStep}
use Rattle.std.proofs.Common.{None, ap, sym, ◌++◌, ◌∙◌, ◌≡◌}
use Rattle.dl_at_points.proofs.got.got_by.Goals as goal

pub returns-clause-made : goal.returns-clause-made
returns-clause-made c =
    let decls = c.args.decls.now in
    let proc = c.args.proc.now in
    let step = c.args.step.now in
    let given = known_with decls proc c.args.label c.args.tag step.msg in
    let asks = λ (s : ReceiveStep). before_received decls.inst None s (put (next_of (point_at proc c.args.point)) c.args.targets.now c.args.terms.now) in
    where-done c.put_got.result (c.put_got.new.made ≡ record c.put_got_facts.new.made { goal = asks step }) (c.put_got.new.made ≡ got_sequent decls proc c.args.note.now c.args.label c.args.tag step.msg c.args.targets.now c.args.terms.now (next_of (point_at proc c.args.point))) c.put_got.ensures.made
    (λ e. shown-with given c.put_known_with.new.made c.put_got_facts.new.made c.put_got.new.made (λ (s : Sequent). facts_at decls proc c.args.note.now ++ receive_hypotheses decls.inst s step) (asks step)
    c.in_ok-put_known_with.ensures c.in_ok-put_got_facts.ensures e
    ∙ (λ i. shows given (facts_at decls proc c.args.note.now ++ receive_hypotheses decls.inst given (c.requires.step i)) (asks (c.requires.step i))))

pub put_got-requires : goal.put_got-requires
put_got-requires c =
    ap (λ (s : ReceiveStep). captures (receive_step c.args.decls.now.inst None s) nothing_around (put (next_of (point_at c.args.proc.now c.args.point)) c.args.targets.now c.args.terms.now)) c.requires.step ∙ c.requires.quiet

pub returns-clause-limit : goal.returns-clause-limit
returns-clause-limit c h =
    sym (ap (λ (s : ReceiveStep). is_oversized (before_received c.args.decls.now.inst None s (put (next_of (point_at c.args.proc.now c.args.point)) c.args.targets.now c.args.terms.now))) c.requires.step) ∙ c.put_got.ensures.limit h
