use Rattle.std.proofs.Common.{length, arith}
use Rattle.dl_inv.specs.Duties.{duties_of_protocol}
use Rattle.dl_inv.proofs.Listing.{next-number}
use Rattle.dl_inv.proofs.listed.add_of_protocols.Goals as goal

pub loop-protocol-preserved : goal.loop-protocol-preserved
loop-protocol-preserved c =
    next-number (duties_of_protocol c.args.decls.now) c.loop-protocol.protocol (length c.args.decls.now.inst.protocols) c.loop-protocol.list c.add_of_protocol.new.list _
    (omega (arith, c.len-protocol-end.ensures)) c.loop-protocol.invariant c.in_ok-add_of_protocol.ensures
