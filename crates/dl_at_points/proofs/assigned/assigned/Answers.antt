use Rattle.dl_subst.specs.Substitution.{substituted}
use Rattle.dl_term.specs.declared.syntax.Formula.{Formula}
use Rattle.dl_inv.proofs.Listing.{where-done}
use Rattle.dl_parts.proofs.Shown.{shown-alone}
use Rattle.dl_triples.specs.Obligations.{assigned_sequent, facts_at, known_in}
use Rattle.dl_triples.specs.Points.{next_of, point_at}
use Rattle.std.proofs.Common.{◌≡◌}
use Rattle.dl_at_points.proofs.assigned.assigned.Goals as goal

pub returns-clause-made : goal.returns-clause-made
returns-clause-made c =
    let decls = c.args.decls.now in
    let proc = c.args.proc.now in
    let asks : Formula = substituted (next_of (point_at proc c.args.point)) c.args.into c.args.term.now in
    where-done c.put_assigned.result (c.put_assigned.new.made ≡ record c.hold.new.made { goal = asks }) (c.put_assigned.new.made ≡ assigned_sequent decls proc c.args.note.now c.args.into c.args.term.now (next_of (point_at proc c.args.point))) c.put_assigned.ensures.made
    (λ e. shown-alone (known_in decls proc) c.put_known.new.made c.hold.new.made c.put_assigned.new.made (facts_at decls proc c.args.note.now) asks c.in_ok-put_known.ensures c.in_ok-hold.ensures e)
