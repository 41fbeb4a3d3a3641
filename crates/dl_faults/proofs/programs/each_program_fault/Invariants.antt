use Rattle.std.proofs.Common.{◌≡◌}
use Rattle.std.specs.List.{flat_map, enumerate_from}
use Rattle.dl_model.specs.Lookup.{deploy_of}
use Rattle.dl_faults.specs.Wrong.{joined, earliest}
use Rattle.dl_faults.specs.Programs.{program_wrong}
use Rattle.dl_faults.proofs.Earliest.{to_come}
use Rattle.dl_faults.proofs.programs.each_program_fault.Given as goal

abbrev pub invariant-loop-n : goal.invariant-loop-n
invariant-loop-n l =
    joined l.found (to_come (program_wrong l.file) (deploy_of l.file.decls).programs l.n)
    ≡ earliest (flat_map (program_wrong l.file) (enumerate_from 0 (deploy_of l.file.decls).programs))
