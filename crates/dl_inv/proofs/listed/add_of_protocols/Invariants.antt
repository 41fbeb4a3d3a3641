use Rattle.std.proofs.Common.{◌≡◌, ◌++◌, ◌-◌, length}
use Rattle.std.specs.List.{flat_map, range_with_len}
use Rattle.dl_inv.specs.Duties.{duties_of_protocol, positions}
use Rattle.dl_inv.proofs.listed.add_of_protocols.Given as goal

abbrev pub invariant-loop-protocol : goal.invariant-loop-protocol
invariant-loop-protocol l =
    l.list ++ flat_map (duties_of_protocol l.decls) (range_with_len l.protocol (length l.decls.inst.protocols - l.protocol))
    ≡ l.initial.list ++ flat_map (duties_of_protocol l.decls) (positions l.decls.inst.protocols)
