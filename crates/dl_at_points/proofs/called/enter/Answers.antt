use Rattle.dl_model.specs.declared.program.Proc.{Proc}
use Rattle.dl_triples.specs.Obligations.{enter_sequent}
use Rattle.std.proofs.Common.{ap, ◌∙◌}
use Rattle.dl_at_points.proofs.called.enter.Goals as goal

pub returns-clause-made : goal.returns-clause-made
returns-clause-made c =
    let decls = c.args.decls.now in
    let proc = c.args.proc.now in
    c.in_ok-filled.ensures ∙ ap (λ (p : Proc). enter_sequent decls proc c.args.note.now c.args.frame.now p c.args.args.now) c.proc_of-callee.ensures
