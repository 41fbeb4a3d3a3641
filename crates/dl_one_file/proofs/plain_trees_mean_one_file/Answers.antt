use Rattle.dl_one_file.proofs.OneFile.{plain-one-file}
use Rattle.dl_one_file.proofs.plain_trees_mean_one_file.Goals as goal

pub returns : goal.returns
returns c = plain-one-file
