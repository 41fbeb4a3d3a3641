use Rattle.std.proofs.Common.{◌≡◌}
use Rattle.dl_faults.specs.Wrong.{joined, earliest}
use Rattle.dl_faults.specs.Worlds.{hook_wrong, world_wrong}
use Rattle.dl_faults.proofs.Earliest.{to_come}
use Rattle.dl_faults.proofs.worlds.hooks_fault.Given as goal

abbrev pub invariant-loop-position : goal.invariant-loop-position
invariant-loop-position l = joined l.found (to_come (hook_wrong l.file l.w l.world) l.world.hooks l.position) ≡ earliest (world_wrong l.file (l.w, l.world))
