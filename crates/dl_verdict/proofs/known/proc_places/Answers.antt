use Rattle.dl_faults.specs.Spots.{spots_of}
use Rattle.dl_verdict.proofs.Spots.{one-further}
use Rattle.dl_verdict.proofs.known.proc_places.Goals as goal

pub loop-number-preserved : goal.loop-number-preserved
loop-number-preserved c =
    one-further (spots_of c.args.tree.now) c.loop-number.places c.push.new.self c.in_ok-spots.spots c.loop-number.number c.loop-number.invariant c.in_ok-spots.ensures c.in_ok-push.ensures.ok
