use Rattle.std.proofs.Common.{◌<◌, ◌^◌, length, FitsSigned, arith, rules}
use Rattle.std.proofs.lemmas.Int.{to_z-of_z}
use mir.Syntax.{w64}
use Rattle.std.proofs.lemmas.Grind.{common_steps}
use Rattle.dl_state.proofs.LaidLemmas.{found-at, place-within, write-is}
use Rattle.dl_state.proofs.board.Board.set.Goals as goal

pub place-place-requires : goal.place-place-requires
place-place-requires c =
    let bound : c.from.result < length c.self.inside.columns.items = grind (arith, common_steps) in
    let look = found-at _ _ _ _ c.from.ensures bound c.index-column.ensures in
    let within = place-within _ _ _ _ _ _ _ _ c.self.view_is c.self.invariant c.requires look in
    let small : length c.self.inside.cells.items < 2 ^ 64 = grind (arith, common_steps) in
    omega (arith, within.place)

pub index_mut-requires : goal.index_mut-requires
index_mut-requires c =
    let bound : c.from.result < length c.self.inside.columns.items = grind (arith, common_steps) in
    let look = found-at _ _ _ _ c.from.ensures bound c.index-column.ensures in
    let within = place-within _ _ _ _ _ _ _ _ c.self.view_is c.self.invariant c.requires look in
    grind (arith, common_steps, within.place, c.place-place.ensures)

pub returns : goal.returns
returns c =
    let bound : c.from.result < length c.self.inside.columns.items = grind (arith, common_steps) in
    let look = found-at _ _ _ _ c.from.ensures bound c.index-column.ensures in
    let fits : FitsSigned w64 c.args.value = search rules in
    write-is _ _ _ _ _ _ _ _ _ _ _ c.self.view_is c.self.invariant c.requires look (to_z-of_z w64 c.args.value fits) c.place-place.ensures
