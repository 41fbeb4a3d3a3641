use Rattle.dl_inv.specs.Steps.{called}
use Rattle.dl_inv.specs.Words.{guard_word}
use Rattle.dl_model.specs.declared.sequent.Hypothesis.{Hypothesis}
use Rattle.dl_term.specs.declared.syntax.Formula.{Formula}
use Rattle.dl_inv.proofs.Listing.{where-done}
use Rattle.dl_parts.proofs.Shown.{shown}
use Rattle.dl_triples.specs.Obligations.{allowed_in, facts_at, known_in, sent_sequent}
use Rattle.dl_triples.specs.Points.{next_of, point_at}
use Rattle.dl_wp.specs.Before.{before_sent}
use Rattle.std.proofs.Common.{List, None, [], refl, ◌++◌, ◌∷◌, ◌≡◌}
use Rattle.dl_at_points.proofs.sent.sent_by.Goals as goal

pub returns-clause-made : goal.returns-clause-made
returns-clause-made c =
    let decls = c.args.decls.now in
    let proc = c.args.proc.now in
    let step = c.args.step.now in
    let facts : List Hypothesis = facts_at decls proc c.args.note.now ++ called guard_word (allowed_in decls proc c.args.label c.args.tag step) ∷ [] in
    let asks : Formula = before_sent decls.inst None step (next_of (point_at proc c.args.point)) in
    where-done c.put_sent.result (c.put_sent.new.made ≡ record c.put_sent_facts.new.made { goal = asks }) (c.put_sent.new.made ≡ sent_sequent decls proc c.args.note.now c.args.label c.args.tag step (next_of (point_at proc c.args.point))) c.put_sent.ensures.made
    (λ e. shown (known_in decls proc) (known_in decls proc) c.put_sent_facts.new.made c.put_sent.new.made facts asks refl c.in_ok-put_sent_facts.ensures e)
