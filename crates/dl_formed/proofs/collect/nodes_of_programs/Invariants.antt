use Rattle.std.proofs.Common.{◌≡◌, take}
use Rattle.dl_formed.specs.Programs.{program_nodes}
use Rattle.dl_formed.proofs.collect.nodes_of_programs.Given as goal

abbrev pub invariant-loop-program : goal.invariant-loop-program
invariant-loop-program l = l.nodes ≡ program_nodes (take l.program-index l.programs)
