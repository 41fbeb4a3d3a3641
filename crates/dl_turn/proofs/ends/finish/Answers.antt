use Rattle.std.proofs.Common.{sym, subst, IsSome, refl}
use Rattle.dl_turn.proofs.MakerKeeps.{closes, taken, taken_closed}
use Rattle.dl_turn.proofs.ends.finish.Goals as goal

pub unwrap-value-requires : goal.unwrap-value-requires
unwrap-value-requires g c =
    let l = c.requires.last in
    let found = closes g.T.Book.entries g.T.Book.ground _ _ _ _ _ _ l.1 l.2 c.requires.back c.close_with-closed.ensures.values.2 in
    subst IsSome (sym (taken g.T.Book.entries g.T.Book.ground _ _ _ _ _ found c.take.ensures.value).1) refl

pub returns : goal.returns
returns g c =
    let l = c.requires.last in
    let found = closes g.T.Book.entries g.T.Book.ground _ _ _ _ _ _ l.1 l.2 c.requires.back c.close_with-closed.ensures.values.2 in
    taken_closed g.T.Book.entries g.T.Book.ground _ _ _ _ _ _ found c.take.ensures.value c.unwrap-value.ensures
