use Rattle.std.proofs.Common.{◌≡◌, drop}
use Rattle.std.specs.List.{flat_map}
use Rattle.dl_formed_file.specs.Bound.{with_names, protocol_bound}
use Rattle.dl_formed_file.proofs.bound.add_protocols.Given as goal

abbrev pub invariant-loop-protocol : goal.invariant-loop-protocol
invariant-loop-protocol l = with_names l.set.keys (flat_map protocol_bound (drop l.protocol-index l.protocols)) ≡ with_names l.initial.set.keys (flat_map protocol_bound l.protocols)
