use Rattle.std.proofs.Common.{◌≡◌, ◌++◌, take}
use Rattle.dl_formed.specs.Collected.{protocol_names}
use Rattle.dl_formed.proofs.collect.add_protocols.Given as goal

abbrev pub invariant-loop-protocol : goal.invariant-loop-protocol
invariant-loop-protocol l = l.names ≡ l.initial.names ++ protocol_names (take l.protocol-index l.protocols)
