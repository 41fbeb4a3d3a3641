use Rattle.std.proofs.Common.{◌<◌, length, arith}
use Rattle.std.specs.List.{flat_map}
use Rattle.dl_formed_file.specs.Bound.{with_names, invariant_bound}
use Rattle.dl_formed_file.proofs.BoundLemmas.{item-added}
use Rattle.dl_formed_file.proofs.bound.add_invariants.Goals as goal

pub loop-invariant-preserved : goal.loop-invariant-preserved
loop-invariant-preserved c =
    let within : c.loop-invariant.invariant-index < length c.args.invariants.now = omega arith in
    item-added invariant_bound c.loop-invariant.set.keys c.add_formula.new.set.keys (with_names c.args.set.now.keys (flat_map invariant_bound c.args.invariants.now)) c.args.invariants.now c.loop-invariant.invariant-index c.invariant-item.result
    within c.invariant-item.is c.in_ok-add_formula.ensures c.loop-invariant.invariant
