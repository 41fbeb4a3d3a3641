use Rattle.std.proofs.Common.{arith}
use Rattle.std.specs.List.{flat_map, enumerate_from}
use Rattle.dl_model.specs.Lookup.{deploy_of}
use Rattle.dl_faults.specs.Programs.{proc_wrong, program_wrong}
use Rattle.dl_faults.proofs.Stages.{both-parts}
use Rattle.dl_faults.proofs.programs.programs_fault.Goals as goal

pub procs_fault-requires-clause-few : goal.procs_fault-requires-clause-few
procs_fault-requires-clause-few c = let few = c.requires.formed.small.procs in omega (few, arith)

pub returns : goal.returns
returns c =
    let file = c.args.file.now in
    both-parts (flat_map (proc_wrong file) (enumerate_from 0 file.decls.procs)) (flat_map (program_wrong file) (enumerate_from 0 (deploy_of file.decls).programs))
    c.in_ok-of_procs.of_procs c.each_program_fault-of_programs.result c.earlier_of.result
    c.in_ok-of_procs.ensures c.each_program_fault-of_programs.ensures c.earlier_of.ensures
