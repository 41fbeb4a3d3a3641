use Rattle.dl_formed.proofs.Entire.{formed-where}
use Rattle.dl_formed.proofs.decide.is_formed.Goals as goal

pub returns : goal.returns
returns c = formed-where c.file_is_formed.result c.args.decls.now c.file_is_formed.ensures
