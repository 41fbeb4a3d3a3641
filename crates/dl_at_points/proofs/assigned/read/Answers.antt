use Rattle.std.proofs.Common.{◌≡◌, sym, ap, ◌∙◌}
use Rattle.dl_term.specs.declared.syntax.Term.{Term}
use Rattle.dl_term.specs.Measures.{is_oversized}
use Rattle.dl_subst.specs.Substitution.{substituted}
use Rattle.dl_triples.specs.Obligations.{assigned_sequent, term_read}
use Rattle.dl_triples.specs.Points.{next_of, point_at}
use Rattle.dl_inv.proofs.Listing.{where-done}
use Rattle.dl_at_points.proofs.assigned.read.Goals as goal

pub returns-clause-made : goal.returns-clause-made
returns-clause-made c =
    let decls = c.args.decls.now in
    let proc = c.args.proc.now in
    let next = next_of (point_at proc c.args.point) in
    where-done c.assigned-filled.result (c.assigned-filled.new.made ≡ assigned_sequent decls proc c.args.note.now c.args.into c.in_ok-term.term next)
    (c.assigned-filled.new.made ≡ assigned_sequent decls proc c.args.note.now c.args.into (term_read c.args.label c.args.field c.args.index.now) next) c.assigned-filled.ensures.made
    (λ e. e ∙ ap (λ (t : Term). assigned_sequent decls proc c.args.note.now c.args.into t next) c.in_ok-term.ensures)

pub returns-clause-limit : goal.returns-clause-limit
returns-clause-limit c h = sym (ap (λ (t : Term). is_oversized (substituted (next_of (point_at c.args.proc.now c.args.point)) c.args.into t)) c.in_ok-term.ensures) ∙ c.assigned-filled.ensures.limit h
