use Rattle.std.proofs.Common.{◌<◌, ◌+◌, length, sym, arith}
use Rattle.dl_history.proofs.Places.{place-below}
use Rattle.dl_history.proofs.config.+place_in.Goals as goal

pub overflow_add-result : goal.overflow_add-result
overflow_add-result t c =
    let below : c.in-Some.place + 1 < length c.args.runners.now + 1 = place-below c.args.runners.now c.args.node c.in-Some.place (sym c.in-Some.ensures) in
    omega (arith, below)
