use Rattle.std.proofs.Common.{◌≡◌, drop}
use Rattle.std.specs.List.{list_all}
use Rattle.dl_formed.specs.Decided.{protocol_is_apart}
use Rattle.dl_formed.proofs.apart.protocols_are_apart.Given as goal

abbrev pub invariant-loop-protocol : goal.invariant-loop-protocol
invariant-loop-protocol l = list_all (protocol_is_apart l.names) (drop l.protocol-index l.protocols) ≡ list_all (protocol_is_apart l.names) l.protocols
