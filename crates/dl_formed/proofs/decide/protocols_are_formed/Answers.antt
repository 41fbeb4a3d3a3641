use Rattle.std.proofs.Common.{◌<◌, length, arith}
use Rattle.dl_formed.specs.Decided.{protocol_is_formed}
use Rattle.dl_formed.proofs.Listing.{item-fails, item-passes}
use Rattle.dl_formed.proofs.decide.protocols_are_formed.Goals as goal

pub returns-then-not-branch : goal.returns-then-not-branch
returns-then-not-branch c =
    let within : c.loop-protocol.protocol-index < length c.args.protocols.now = omega arith in
    item-fails (protocol_is_formed c.args.nodes) c.args.protocols.now c.loop-protocol.protocol-index c.protocol-item.result c.in_ok-is_formed.field-0 within c.protocol-item.is c.in_ok-is_formed.ensures c.if-not-branch.true c.loop-protocol.invariant

pub loop-protocol-preserved : goal.loop-protocol-preserved
loop-protocol-preserved c =
    let within : c.loop-protocol.protocol-index < length c.args.protocols.now = omega arith in
    item-passes (protocol_is_formed c.args.nodes) c.args.protocols.now c.loop-protocol.protocol-index c.protocol-item.result c.in_ok-is_formed.field-0 within c.protocol-item.is c.in_ok-is_formed.ensures c.if-not-branch.false c.loop-protocol.invariant
