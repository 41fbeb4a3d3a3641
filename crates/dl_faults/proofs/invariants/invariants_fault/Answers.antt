use Rattle.std.proofs.Common.{◌<◌, length, arith}
use Rattle.std.specs.List.{flat_map, enumerate_from}
use Rattle.dl_faults.specs.Wrong.{earliest}
use Rattle.dl_faults.specs.Worlds.{invariant_wrong}
use Rattle.dl_faults.proofs.Earliest.{seen-one}
use Rattle.dl_faults.proofs.invariants.invariants_fault.Goals as goal

pub loop-i-preserved : goal.loop-i-preserved
loop-i-preserved c =
    let items = c.as_slice-invariant-items.result.now in
    let within : c.loop-i.i < length items = omega arith in
    seen-one (invariant_wrong c.args.file.now) items c.args.file.now.decls.invariants c.loop-i.i c.invariant-item.result c.invariant-item.result c.loop-i.found c.in_ok-one.one
    c.earlier_of-found.result (earliest (flat_map (invariant_wrong c.args.file.now) (enumerate_from 0 c.args.file.now.decls.invariants)))
    c.as_slice-invariant-items.ensures within c.invariant-item.is c.in_ok-one.ensures c.earlier_of-found.ensures c.loop-i.invariant
