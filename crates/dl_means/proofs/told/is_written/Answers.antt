use Rattle.dl_means.proofs.FitLemmas.{parts-written}
use Rattle.dl_means.proofs.told.is_written.Goals as goal

pub returns-else-not-branch : goal.returns-else-not-branch
returns-else-not-branch c =
    parts-written c.args.names.now c.args.file.now c.parts_of.result.now c.word-item.result c.version-item.result c.nodes-item.result
    c.parts_of.ensures c.in-len3-up.len_at_least c.word-item.is c.version-item.is c.nodes-item.is
    (c.in_ok-begins-in-len3-up.ensures c.if-not-branch.false) c.all_fit.result c.all_fit.ensures
