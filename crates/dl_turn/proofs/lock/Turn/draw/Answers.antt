use Rattle.std.proofs.Common.{rules}
use Rattle.dl_turn.proofs.Keeps.{draws}
use Rattle.dl_turn.proofs.lock.Turn.draw.Goals as goal

pub fetch_add-requires : goal.fetch_add-requires
fetch_add-requires g c = (search rules, search rules, draws _ _ _ _ _ _ _ c.requires.out.0 c.requires.out.1)
