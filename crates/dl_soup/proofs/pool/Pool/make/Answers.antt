use Rattle.std.proofs.Common.{◌≡◌, ◌<◌, ◌^◌, List, map, max, ap, ◌∙◌, arith}
use Rattle.dl_state.specs.Known.{Known}
use Rattle.dl_state.specs.Shapes.{shape_state}
use Rattle.dl_soup.specs.IdRows.{IdRow}
use Rattle.dl_soup.specs.PoolKept.{ids_of}
use Rattle.dl_soup.proofs.RowLemmas.{first-grow, first-rows, room-first}
use Rattle.dl_soup.proofs.pool.Pool.make.Goals as goal

pub reserve-requires : goal.reserve-requires
reserve-requires c =
    let few : c.args.room < 2 ^ 32 = omega arith in
    first-grow c.args.shape.now c.args.room c.in_ok-state.state.state few (ap (λ (k : Known). k.state) c.in_ok-state.ensures)

pub invariant_of-result : goal.invariant_of-result
invariant_of-result c =
    let none : c.in_ok-state.state.spare ≡ 0 = ap (λ (k : Known). k.spare) c.in_ok-state.ensures in
    let grown : c.reserve.new.self.spare ≡ max c.in_ok-state.state.spare c.args.room = c.in_ok-reserve.ensures.ok in
    let spare : c.reserve.new.self.spare ≡ c.args.room = omega arith in
    let first : c.reserve.new.self.state ≡ shape_state c.args.shape.now = c.reserve.ensures.state ∙ ap (λ (k : Known). k.state) c.in_ok-state.ensures in
    record {
      live = ap (λ (rows : List IdRow). map ids_of rows) c.in_ok-live.ensures ∙ first-rows c.args.shape.now c.args.room c.len.result c.reserve.new.self.state c.len.ensures first;
      room = room-first c.len.result c.args.room c.reserve.new.self.spare c.in_ok-live.live.items spare c.in_ok-live.ensures;
    }
