use Rattle.dl_model.specs.Block.{block_of, followed}
use Rattle.dl_model.specs.declared.program.Command.{Command}
use Rattle.dl_model.specs.declared.sequent.Sequent.{Sequent}
use Rattle.dl_term.specs.declared.syntax.Term.{Term}
use Rattle.dl_inv.proofs.Listing.{where-done}
use Rattle.dl_triples.specs.Obligations.{guard_at, guard_sequent, sending}
use Rattle.std.proofs.Common.{List, ap, sym, ◌∙◌, ◌≡◌}
use Rattle.dl_at_points.proofs.sent.fill_guard.Goals as goal

pub returns-in-Send-clause-made : goal.returns-in-Send-clause-made
returns-in-Send-clause-made c =
    let decls = c.args.decls.now in
    let proc = c.args.proc.now in
    let rest = block_of c.args.rest.now in
    let made : List Term → Sequent = λ xs. guard_sequent decls proc c.in-Send.note c.in-Send.label c.in-Send.tag (sending c.in-Send.label c.in-Send.tag c.in-Send.to xs) in
    where-done c.guard_sent.result (c.guard_sent.new.made ≡ made c.as_slice.result.now) (c.guard_sent.new.made ≡ guard_at decls proc (followed c.args.command.now rest)) c.guard_sent.ensures.made (λ e. e ∙ (ap made c.as_slice.ensures ∙ sym (ap (λ (x : Command). guard_at decls proc (followed x rest)) c.in-Send.is)))
