use Rattle.dl_inv.specs.Joined.{all_of}
use Rattle.dl_model.specs.declared.sequent.Sequent.{Sequent}
use Rattle.dl_inv.proofs.Listing.{where-done}
use Rattle.dl_parts.proofs.Shown.{shown-after-with}
use Rattle.dl_triples.specs.Built.{entered_parts}
use Rattle.dl_triples.specs.Obligations.{enter_sequent, facts_at, known_in}
use Rattle.std.proofs.Common.{◌≡◌}
use Rattle.dl_at_points.proofs.called.enter_with.Goals as goal

pub returns : goal.returns
returns c =
    let decls = c.args.decls.now in
    let proc = c.args.proc.now in
    let asks = λ (s : Sequent). all_of (entered_parts decls s c.args.frame.now c.args.callee.now c.args.args.now) in
    let facts = facts_at decls proc c.args.note.now in
    where-done c.hold.result (c.hold.new.made ≡ record c.put_entered.new.made { facts = facts }) (c.hold.new.made ≡ enter_sequent decls proc c.args.note.now c.args.frame.now c.args.callee.now c.args.args.now) c.hold.ensures
    (λ e. shown-after-with (known_in decls proc) c.put_known.new.made c.put_entered.new.made c.hold.new.made facts asks c.in_ok-put_known.ensures c.in_ok-put_entered.ensures e)
