use Rattle.std.proofs.Common.{◌≡◌, ◌∷◌, ◌+◌, drop, subst, arith}
use Rattle.dl_world.proofs.Rests.{rest-here}
use Rattle.dl_world.proofs.Marking.{MarksBefore, none-marked, one-marked}
use Rattle.dl_world.proofs.positions.Positions.of.Goals as goal

pub loop-position-init : goal.loop-position-init
loop-position-init c = none-marked c.args.list.now

pub loop-position-preserved : goal.loop-position-preserved
loop-position-preserved c =
    let here : drop c.loop-position.position-index c.args.list.now ≡ c.from.result ∷ drop (c.loop-position.position-index + 1) c.args.list.now =
    rw c.from.ensures (rest-here c.args.list.now c.loop-position.position-index (omega arith)) in
    one-marked c.from.result (drop (c.loop-position.position-index + 1) c.args.list.now) c.args.list.now c.loop-position.marks (omega (arith, c.type_inv.list c.loop-position.position-index, c.from.ensures))
    (subst (λ rest. MarksBefore rest c.args.list.now c.loop-position.marks) here c.loop-position.invariant)
