use Rattle.dl_model.specs.Block.{block_of, followed}
use Rattle.dl_model.specs.Lookup.{proc_at}
use Rattle.dl_model.specs.declared.program.Command.{Command}
use Rattle.dl_model.specs.declared.sequent.Sequent.{Sequent}
use Rattle.dl_term.specs.declared.syntax.Term.{Term}
use Rattle.dl_inv.proofs.Listing.{where-done}
use Rattle.dl_triples.specs.Obligations.{enter_at, enter_sequent}
use Rattle.std.proofs.Common.{List, ap, sym, ◌∙◌, ◌≡◌}
use Rattle.dl_at_points.proofs.called.fill_enter.Goals as goal

pub returns-in-Call-clause-made : goal.returns-in-Call-clause-made
returns-in-Call-clause-made c =
    let decls = c.args.decls.now in
    let proc = c.args.proc.now in
    let rest = block_of c.args.rest.now in
    let made : List Term → Sequent = λ xs. enter_sequent decls proc c.in-Call.note c.in-Call.frame (proc_at decls.procs c.in-Call.callee) xs in
    where-done c.enter.result (c.enter.new.made ≡ made c.as_slice.result.now) (c.enter.new.made ≡ enter_at decls proc (followed c.args.command.now rest)) c.enter.ensures.made (λ e. e ∙ (ap made c.as_slice.ensures ∙ sym (ap (λ (x : Command). enter_at decls proc (followed x rest)) c.in-Call.is)))
