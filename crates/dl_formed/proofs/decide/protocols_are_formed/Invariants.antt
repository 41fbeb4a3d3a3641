use Rattle.std.proofs.Common.{◌≡◌, drop}
use Rattle.std.specs.List.{list_all}
use Rattle.dl_formed.specs.Decided.{protocol_is_formed}
use Rattle.dl_formed.proofs.decide.protocols_are_formed.Given as goal

abbrev pub invariant-loop-protocol : goal.invariant-loop-protocol
invariant-loop-protocol l = list_all (protocol_is_formed l.nodes) (drop l.protocol-index l.protocols) ≡ list_all (protocol_is_formed l.nodes) l.protocols
