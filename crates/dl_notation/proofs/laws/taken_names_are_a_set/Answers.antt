use Rattle.dl_notation.proofs.TakenLemmas.{same_faults}
use Rattle.dl_notation.proofs.laws.taken_names_are_a_set.Goals as goal

pub returns : goal.returns
returns c context taken tree q same = same_faults tree context taken same q
