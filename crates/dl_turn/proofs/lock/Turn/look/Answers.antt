use Rattle.std.proofs.Common.{rules}
use Rattle.dl_turn.proofs.Keeps.{looks}
use Rattle.dl_turn.proofs.lock.Turn.look.Goals as goal

pub load-requires : goal.load-requires
load-requires g c = let w = c.requires.waiting in (search rules, search rules, looks _ _ _ _ _ _ _ w.3 w.0 w.1 w.2)
