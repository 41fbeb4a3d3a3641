use Rattle.dl_programs.proofs.Clean.{programs-clean}
use Rattle.dl_programs.proofs.obligations_are_clean.Goals as goal

pub returns : goal.returns
returns c = programs-clean
