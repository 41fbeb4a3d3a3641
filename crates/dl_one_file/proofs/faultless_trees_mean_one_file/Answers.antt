use Rattle.dl_one_file.proofs.OneFile.{one-file}
use Rattle.dl_one_file.proofs.faultless_trees_mean_one_file.Goals as goal

pub returns : goal.returns
returns c = one-file
