use Rattle.dl_programs.proofs.Programs.{programs-safe}
use Rattle.dl_programs.proofs.programs_are_safe.Goals as goal

pub returns : goal.returns
returns c = programs-safe
