use Rattle.std.proofs.Common.{◌<◌, ◌^◌, sym, ◌∙◌, ap, subst, arith}
use Rattle.std.specs.List.{All}
use Rattle.dl_state.specs.Known.{Known}
use Rattle.dl_state.specs.Writes.{CanGrow}
use Rattle.dl_history.proofs.Starting.{first-grow}
use Rattle.dl_history.proofs.start.make_state.Goals as goal

pub reserve-requires : goal.reserve-requires
reserve-requires c =
    let small : c.args.room < 2 ^ 32 = omega arith in
    subst (λ (k : Known). All (CanGrow c.args.room) k.state.labels) (sym c.in_ok-world.ensures) (first-grow c.args.shape.now c.args.room small)

pub returns-clause-state : goal.returns-clause-state
returns-clause-state c = c.in_ok-reserve.ensures.state ∙ ap (λ (k : Known). k.state) c.in_ok-world.ensures
