use Rattle.std.proofs.Common.{length, ap, arith}
use Rattle.dl_triples.specs.Duties.{duties_of_proc}
use Rattle.dl_inv.proofs.Listing.{next-number}
use Rattle.dl_duties.proofs.Listing.{proc-here, proc-few}
use Rattle.dl_duties.proofs.listed.add_of_procs.Goals as goal

pub add_of_proc-requires-clause-here : goal.add_of_proc-requires-clause-here
add_of_proc-requires-clause-here c =
    proc-here c.args.decls.now c.as_slice-proc-items.result.now c.loop-number.number c.proc-item.result c.as_slice-proc-items.ensures (omega arith) c.proc-item.is

pub add_of_proc-requires-clause-few : goal.add_of_proc-requires-clause-few
add_of_proc-requires-clause-few c =
    proc-few c.args.decls.now c.as_slice-proc-items.result.now c.loop-number.number c.proc-item.result c.as_slice-proc-items.ensures (omega arith) c.proc-item.is c.requires.points

pub loop-number-preserved : goal.loop-number-preserved
loop-number-preserved c =
    next-number (duties_of_proc c.args.decls.now) c.loop-number.number (length c.args.decls.now.procs) c.loop-number.list c.add_of_proc.new.list _
    (omega (arith, ap length c.as_slice-proc-items.ensures)) c.loop-number.invariant c.in_ok-add_of_proc.ensures
