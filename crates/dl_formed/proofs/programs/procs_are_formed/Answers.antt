use Rattle.std.proofs.Common.{◌<◌, length, arith}
use Rattle.dl_formed.proofs.Running.{proc-fails, proc-passes}
use Rattle.dl_formed.proofs.programs.procs_are_formed.Goals as goal

pub returns-then-not-branch : goal.returns-then-not-branch
returns-then-not-branch c =
    let within : c.loop-proc.proc-index < length c.args.procs.now = omega arith in
    proc-fails c.args.decls.now c.loop-proc.number c.args.procs.now c.loop-proc.proc-index c.proc-item.result c.in_ok-proc_is_formed.field-0 within c.proc-item.is
    c.in_ok-proc_is_formed.ensures c.if-not-branch.true c.loop-proc.invariant.1

pub loop-proc-preserved : goal.loop-proc-preserved
loop-proc-preserved c =
    let within : c.loop-proc.proc-index < length c.args.procs.now = omega arith in (
      omega arith,
      proc-passes c.args.decls.now c.loop-proc.number c.args.procs.now c.loop-proc.proc-index c.proc-item.result c.in_ok-proc_is_formed.field-0 within c.proc-item.is
          c.in_ok-proc_is_formed.ensures c.if-not-branch.false c.loop-proc.invariant.1,
    )
