use Rattle.dl_faults.specs.Places.{invariant_place}
use Rattle.dl_verdict.proofs.Spots.{one-further}
use Rattle.dl_verdict.proofs.known.invariant_places.Goals as goal

pub loop-number-preserved : goal.loop-number-preserved
loop-number-preserved c =
    one-further (invariant_place c.args.tree.now) c.loop-number.places c.push.new.self c.invariant_place.result c.loop-number.number c.loop-number.invariant c.invariant_place.ensures c.in_ok-push.ensures.ok
