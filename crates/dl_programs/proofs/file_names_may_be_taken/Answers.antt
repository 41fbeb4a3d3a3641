use Rattle.dl_programs.proofs.ProgramNames.{program-names}
use Rattle.dl_programs.proofs.file_names_may_be_taken.Goals as goal

pub returns : goal.returns
returns c = program-names
