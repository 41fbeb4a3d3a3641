use Rattle.std.proofs.Common.{◌<◌, length, arith}
use Rattle.std.specs.List.{flat_map}
use Rattle.dl_formed_file.specs.Bound.{with_names, proc_bound}
use Rattle.dl_formed_file.proofs.BoundLemmas.{item-added}
use Rattle.dl_formed_file.proofs.bound.add_procs.Goals as goal

pub loop-proc-preserved : goal.loop-proc-preserved
loop-proc-preserved c =
    let within : c.loop-proc.proc-index < length c.args.procs.now = omega arith in
    item-added proc_bound c.loop-proc.set.keys c.add_proc.new.set.keys (with_names c.args.set.now.keys (flat_map proc_bound c.args.procs.now)) c.args.procs.now c.loop-proc.proc-index c.proc-item.result
    within c.proc-item.is c.in_ok-add_proc.ensures c.loop-proc.invariant
