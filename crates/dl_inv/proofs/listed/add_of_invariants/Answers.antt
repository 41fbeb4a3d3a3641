use Rattle.std.proofs.Common.{length, ap, arith}
use Rattle.dl_inv.specs.Duties.{duties_of_invariant}
use Rattle.dl_inv.proofs.Listing.{next-number}
use Rattle.dl_inv.proofs.listed.add_of_invariants.Goals as goal

pub loop-position-preserved : goal.loop-position-preserved
loop-position-preserved c =
    next-number (duties_of_invariant c.args.decls.now) c.loop-position.position (length c.args.decls.now.invariants) c.loop-position.list c.add_of_invariant.new.list _
    (omega (arith, ap length c.as_slice-invariant-items.ensures)) c.loop-position.invariant c.in_ok-add_of_invariant.ensures
