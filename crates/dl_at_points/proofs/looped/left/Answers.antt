use Rattle.dl_term.specs.declared.syntax.Formula.{Not}
use Rattle.dl_inv.proofs.Listing.{where-done}
use Rattle.dl_triples.specs.Obligations.{tested_sequent}
use Rattle.dl_triples.specs.Points.{next_of, point_at}
use Rattle.std.proofs.Common.{ap, ◌∙◌, ◌≡◌}
use Rattle.dl_at_points.proofs.looped.left.Goals as goal

pub returns-clause-made : goal.returns-clause-made
returns-clause-made c =
    let decls = c.args.decls.now in
    let proc = c.args.proc.now in
    where-done c.left_with-filled.result (c.left_with-filled.new.made ≡ tested_sequent decls proc c.args.note.now c.in_ok-outcome.outcome (next_of (point_at proc c.args.point))) (c.left_with-filled.new.made ≡ tested_sequent decls proc c.args.note.now (Not c.args.test.now) (next_of (point_at proc c.args.point))) c.left_with-filled.ensures.made
    (λ e. e ∙ ap (λ f. tested_sequent decls proc c.args.note.now f (next_of (point_at proc c.args.point))) c.in_ok-outcome.ensures)
