use Rattle.dl_check.proofs.ReadLemmas.{found-right}
use Rattle.dl_check.proofs.read.is_right.Goals as goal

pub returns : goal.returns
returns c = found-right c.args.file.now c.file_is_formed.result (c.in_ok-tells.ensures c.if-not-branch.false) c.file_is_formed.ensures
