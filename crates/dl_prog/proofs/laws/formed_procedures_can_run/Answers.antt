use Rattle.dl_prog.proofs.FormedLemmas.{formed-run}
use Rattle.dl_prog.proofs.laws.formed_procedures_can_run.Goals as goal

pub returns : goal.returns
returns c = formed-run
