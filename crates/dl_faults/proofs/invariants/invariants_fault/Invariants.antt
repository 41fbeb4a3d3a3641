use Rattle.std.proofs.Common.{◌≡◌}
use Rattle.std.specs.List.{flat_map, enumerate_from}
use Rattle.dl_faults.specs.Wrong.{joined, earliest}
use Rattle.dl_faults.specs.Worlds.{invariant_wrong}
use Rattle.dl_faults.proofs.Earliest.{to_come}
use Rattle.dl_faults.proofs.invariants.invariants_fault.Given as goal

abbrev pub invariant-loop-i : goal.invariant-loop-i
invariant-loop-i l =
    joined l.found (to_come (invariant_wrong l.file) l.file.decls.invariants l.i)
    ≡ earliest (flat_map (invariant_wrong l.file) (enumerate_from 0 l.file.decls.invariants))
