use Rattle.std.proofs.Common.{◌≡◌, ◌++◌, drop}
use Rattle.dl_formed.specs.Collected.{protocol_variables}
use Rattle.dl_formed.proofs.collect.add_protocol_variables.Given as goal

abbrev pub invariant-loop-protocol : goal.invariant-loop-protocol
invariant-loop-protocol l = l.names ++ protocol_variables (drop l.protocol-index l.protocols) ≡ l.initial.names ++ protocol_variables l.protocols
