use Rattle.std.proofs.Common.{◌<◌, length, arith}
use Rattle.std.specs.List.{flat_map, enumerate_from}
use Rattle.dl_faults.specs.Wrong.{earliest}
use Rattle.dl_faults.specs.Programs.{proc_wrong}
use Rattle.dl_faults.proofs.Earliest.{seen-one}
use Rattle.dl_faults.proofs.programs.procs_fault.Goals as goal

pub loop-p-preserved : goal.loop-p-preserved
loop-p-preserved c =
    let items = c.as_slice-proc-items.result.now in
    let within : c.loop-p.p < length items = omega arith in
    seen-one (proc_wrong c.args.file.now) items c.args.file.now.decls.procs c.loop-p.p c.proc-item.result c.proc-item.result c.loop-p.found c.in_ok-one.one
    c.earlier_of-found.result (earliest (flat_map (proc_wrong c.args.file.now) (enumerate_from 0 c.args.file.now.decls.procs)))
    c.as_slice-proc-items.ensures within c.proc-item.is c.in_ok-one.ensures c.earlier_of-found.ensures c.loop-p.invariant
