use Rattle.dl_check.proofs.ReadLemmas.{checked}
use Rattle.dl_check.proofs.check.checked_file.Goals as goal

pub returns-in-Ok : goal.returns-in-Ok
returns-in-Ok c = checked c.args.tree c.in-Ok.file c.check_file.result c.in-Ok.ensures.ok c.check_file.ensures
