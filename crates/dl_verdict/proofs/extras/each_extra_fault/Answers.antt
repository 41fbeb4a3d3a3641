use Rattle.std.proofs.Common.{◌<◌, length, refl, arith}
use Rattle.std.specs.List.{flat_map}
use Rattle.dl_faults.specs.Wrong.{earliest}
use Rattle.dl_faults.proofs.Earliest.{followed-one}
use Rattle.dl_verdict.specs.Code.{extra_by_keys}
use Rattle.dl_verdict.proofs.extras.each_extra_fault.Goals as goal

pub loop-proof-preserved : goal.loop-proof-preserved
loop-proof-preserved c =
    let f = extra_by_keys c.args.keys.now.keys in
    let proofs = c.args.proofs.now in
    let within : c.loop-proof.proof-index < length proofs = omega arith in
    followed-one f proofs proofs c.loop-proof.proof-index c.proof-item.result c.proof-item.result c.loop-proof.found c.extra_fault.result c.earlier_of-found.result (earliest (flat_map f proofs))
    refl within c.proof-item.is c.extra_fault.ensures c.earlier_of-found.ensures c.loop-proof.invariant
