use Rattle.std.proofs.Common.{◌≡◌}
use Rattle.std.specs.List.{flat_map, enumerate_from}
use Rattle.dl_faults.specs.Wrong.{joined, earliest}
use Rattle.dl_faults.specs.Worlds.{world_wrong}
use Rattle.dl_faults.proofs.Earliest.{to_come}
use Rattle.dl_faults.proofs.worlds.hooks_of_worlds_fault.Given as goal

abbrev pub invariant-loop-w : goal.invariant-loop-w
invariant-loop-w l = joined l.found (to_come (world_wrong l.file) l.file.decls.worlds l.w) ≡ earliest (flat_map (world_wrong l.file) (enumerate_from 0 l.file.decls.worlds))
