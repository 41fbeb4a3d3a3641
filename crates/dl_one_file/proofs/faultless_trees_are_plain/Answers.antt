use Rattle.dl_one_file.proofs.PlainItems.{faultless-plain}
use Rattle.dl_one_file.proofs.faultless_trees_are_plain.Goals as goal

pub returns : goal.returns
returns c = faultless-plain
