use Rattle.dl_check.proofs.ReadLemmas.{counted}
use Rattle.dl_check.proofs.check.check_tree.Goals as goal

pub returns-in-Ok : goal.returns-in-Ok
returns-in-Ok c = counted c.args.tree c.in-Ok.checked c.only_counts.result c.in-Ok.ensures c.only_counts.ensures
