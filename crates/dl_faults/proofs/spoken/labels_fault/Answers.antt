use Rattle.std.proofs.Common.{◌<◌, length, refl, arith}
use Rattle.std.specs.List.{flat_map, enumerate_from}
use Rattle.dl_faults.specs.Wrong.{earliest}
use Rattle.dl_faults.specs.Code.{label_wrong_among}
use Rattle.dl_faults.proofs.Earliest.{seen-one}
use Rattle.dl_faults.proofs.spoken.labels_fault.Goals as goal

pub loop-n-preserved : goal.loop-n-preserved
loop-n-preserved c =
    let f = label_wrong_among c.args.rule c.args.world.now c.args.whole c.args.places.now in
    let labels = c.args.labels.now in
    let within : c.loop-n.n < length labels = omega arith in
    seen-one f labels labels c.loop-n.n _ _ c.loop-n.found c.label_fault.result c.earlier_of-found.result (earliest (flat_map f (enumerate_from 0 labels)))
    refl within refl c.label_fault.ensures c.earlier_of-found.ensures c.loop-n.invariant
