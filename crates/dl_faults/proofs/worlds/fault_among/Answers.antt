use Rattle.dl_faults.specs.Worlds.{declared_wrongs}
use Rattle.dl_faults.specs.Programs.{program_wrongs}
use Rattle.dl_faults.proofs.Stages.{both-parts}
use Rattle.dl_faults.proofs.worlds.fault_among.Goals as goal

pub returns : goal.returns
returns c =
    let file = c.args.file.now in
    both-parts (declared_wrongs file) (program_wrongs file) c.in_ok-of_declared.of_declared c.in_ok-of_programs.of_programs c.earlier_of.result
    c.in_ok-of_declared.ensures c.in_ok-of_programs.ensures c.earlier_of.ensures
