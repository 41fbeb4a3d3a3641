use Rattle.dl_model.specs.Block.{block_of, followed}
use Rattle.dl_model.specs.Lookup.{proc_at}
use Rattle.dl_model.specs.declared.program.Command.{Command}
use Rattle.dl_model.specs.declared.sequent.Sequent.{Sequent}
use Rattle.dl_term.specs.Measures.{is_oversized}
use Rattle.dl_term.specs.declared.syntax.Term.{Term}
use Rattle.dl_inv.proofs.Listing.{where-done}
use Rattle.dl_triples.specs.Obligations.{leave_at, leave_sequent}
use Rattle.dl_triples.specs.Points.{next_of, point_at}
use Rattle.std.proofs.Common.{List, ap, sym, ◌∙◌, ◌≡◌}
use Rattle.dl_at_points.proofs.called.fill_leave.Goals as goal

pub returns-in-Call-clause-made : goal.returns-in-Call-clause-made
returns-in-Call-clause-made c =
    let decls = c.args.decls.now in
    let proc = c.args.proc.now in
    let rest = block_of c.args.rest.now in
    let next = next_of (point_at proc c.args.point) in
    let made : List Term → Sequent = λ xs. leave_sequent decls proc c.in-Call.frame c.in-Call.into (proc_at decls.procs c.in-Call.callee) xs c.args.returned next in
    where-done c.leave.result (c.leave.new.made ≡ made c.as_slice.result.now) (c.leave.new.made ≡ leave_at decls proc (followed c.args.command.now rest) c.args.returned next) c.leave.ensures.made (λ e. e ∙ (ap made c.as_slice.ensures ∙ sym (ap (λ (x : Command). leave_at decls proc (followed x rest) c.args.returned next) c.in-Call.is)))

pub returns-in-Call-clause-limit : goal.returns-in-Call-clause-limit
returns-in-Call-clause-limit c h =
    let decls = c.args.decls.now in
    let proc = c.args.proc.now in
    let rest = block_of c.args.rest.now in
    let next = next_of (point_at proc c.args.point) in
    let made : List Term → Sequent = λ xs. leave_sequent decls proc c.in-Call.frame c.in-Call.into (proc_at decls.procs c.in-Call.callee) xs c.args.returned next in
    sym (ap (λ (s : Sequent). is_oversized s.goal) (ap made c.as_slice.ensures ∙ sym (ap (λ (x : Command). leave_at decls proc (followed x rest) c.args.returned next) c.in-Call.is))) ∙ c.leave.ensures.limit h
