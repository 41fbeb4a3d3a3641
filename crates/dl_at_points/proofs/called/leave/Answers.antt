use Rattle.dl_model.specs.Lookup.{proc_at}
use Rattle.dl_model.specs.declared.program.Proc.{Proc}
use Rattle.dl_model.specs.declared.sequent.Sequent.{Sequent}
use Rattle.dl_inv.proofs.Listing.{where-done}
use Rattle.dl_triples.specs.Obligations.{leave_sequent}
use Rattle.dl_triples.specs.Points.{next_of, point_at}
use Rattle.std.proofs.Common.{ap, ◌∙◌, ◌≡◌}
use Rattle.dl_at_points.proofs.called.leave.Goals as goal

pub returns-clause-made : goal.returns-clause-made
returns-clause-made c =
    let decls = c.args.decls.now in
    let proc = c.args.proc.now in
    let next = next_of (point_at proc c.args.point) in
    let made : Proc → Sequent = λ p. leave_sequent decls proc c.args.frame.now c.args.into p c.args.args.now c.args.returned next in
    where-done c.leave_with-filled.result (c.leave_with-filled.new.made ≡ made c.proc_of-callee.result.now) (c.leave_with-filled.new.made ≡ made (proc_at decls.procs c.args.callee)) c.leave_with-filled.ensures.made
    (λ e. e ∙ ap made c.proc_of-callee.ensures)
