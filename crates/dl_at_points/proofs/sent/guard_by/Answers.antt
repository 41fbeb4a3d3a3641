use Rattle.dl_inv.proofs.Listing.{where-done}
use Rattle.dl_parts.proofs.Shown.{shown-after}
use Rattle.dl_triples.specs.Obligations.{allowed_in, facts_at, guard_sequent, known_in}
use Rattle.std.proofs.Common.{refl, ◌≡◌}
use Rattle.dl_at_points.proofs.sent.guard_by.Goals as goal

pub returns : goal.returns
returns c =
    let decls = c.args.decls.now in
    let proc = c.args.proc.now in
    let step = c.args.step.now in
    let facts = facts_at decls proc c.args.note.now in
    where-done c.hold.result (c.hold.new.made ≡ record c.put_allowed.new.made { facts = facts }) (c.hold.new.made ≡ guard_sequent decls proc c.args.note.now c.args.label c.args.tag step) c.hold.ensures
    (λ e. shown-after (known_in decls proc) (known_in decls proc) c.put_allowed.new.made c.hold.new.made facts (allowed_in decls proc c.args.label c.args.tag step) refl c.in_ok-put_allowed.ensures e)
