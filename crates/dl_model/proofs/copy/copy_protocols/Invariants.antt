use Rattle.std.proofs.Common.{◌≡◌, take}
use Rattle.dl_model.proofs.copy.copy_protocols.Given as goal

abbrev pub invariant-loop-protocol : goal.invariant-loop-protocol
invariant-loop-protocol l = l.copy ≡ take l.protocol-index l.protocols
