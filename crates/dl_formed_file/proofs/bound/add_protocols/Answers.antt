use Rattle.std.proofs.Common.{◌<◌, length, arith}
use Rattle.std.specs.List.{flat_map}
use Rattle.dl_formed_file.specs.Bound.{with_names, protocol_bound}
use Rattle.dl_formed_file.proofs.BoundLemmas.{item-added}
use Rattle.dl_formed_file.proofs.bound.add_protocols.Goals as goal

pub loop-protocol-preserved : goal.loop-protocol-preserved
loop-protocol-preserved c =
    let within : c.loop-protocol.protocol-index < length c.args.protocols.now = omega arith in
    item-added protocol_bound c.loop-protocol.set.keys c.add_protocol.new.set.keys (with_names c.args.set.now.keys (flat_map protocol_bound c.args.protocols.now)) c.args.protocols.now c.loop-protocol.protocol-index c.protocol-item.result
    within c.protocol-item.is c.in_ok-add_protocol.ensures c.loop-protocol.invariant
