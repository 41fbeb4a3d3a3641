use Rattle.dl_model.proofs.Matches.{matches-are}
use Rattle.dl_model.proofs.laws.matches_are_found.Goals as goal

pub returns : goal.returns
returns c = matches-are
