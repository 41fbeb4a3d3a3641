use Rattle.dl_inv.proofs.FileNames.{file-names}
use Rattle.dl_inv.proofs.laws.file_names_may_be_taken.Goals as goal

pub returns : goal.returns
returns c = file-names
