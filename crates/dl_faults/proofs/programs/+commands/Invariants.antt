use Rattle.std.proofs.Common.{◌≡◌}
use Rattle.dl_faults.specs.Wrong.{joined, earliest}
use Rattle.dl_faults.specs.Code.{numbered_wrong, commands_wrong}
use Rattle.dl_faults.proofs.Earliest.{to_come}
use Rattle.dl_faults.proofs.programs.+commands.Given as goal

abbrev pub invariant-commands_fault-loop-n : goal.invariant-commands_fault-loop-n
invariant-commands_fault-loop-n l = joined l.found (to_come (numbered_wrong l.file l.world l.whole l.trees) l.commands l.n) ≡ earliest (commands_wrong l.file l.world l.whole l.trees l.commands)
