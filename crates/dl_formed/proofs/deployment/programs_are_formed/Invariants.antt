use Rattle.std.proofs.Common.{◌≡◌, drop}
use Rattle.std.specs.List.{list_all}
use Rattle.dl_formed.specs.Programs.{program_is_formed}
use Rattle.dl_formed.proofs.deployment.programs_are_formed.Given as goal

abbrev pub invariant-loop-program : goal.invariant-loop-program
invariant-loop-program l = list_all (program_is_formed l.decls) (drop l.program-index l.programs) ≡ list_all (program_is_formed l.decls) l.programs
