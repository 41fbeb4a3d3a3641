use Rattle.dl_model.specs.Block.{block_of, followed}
use Rattle.dl_model.specs.declared.program.Command.{Command}
use Rattle.dl_model.specs.declared.sequent.Sequent.{Sequent}
use Rattle.dl_term.specs.Measures.{is_oversized}
use Rattle.dl_term.specs.declared.syntax.Formula.{Not}
use Rattle.dl_points.proofs.Finding.{while-followed}
use Rattle.dl_inv.proofs.Listing.{where-done}
use Rattle.dl_triples.specs.Obligations.{exit_at, tested_sequent}
use Rattle.dl_triples.specs.Points.{next_of, point_at}
use Rattle.std.proofs.Common.{ap, sym, ◌∙◌, ◌≡◌}
use Rattle.dl_at_points.proofs.looped.fill_exit.Goals as goal

pub returns-in-While-clause-made : goal.returns-in-While-clause-made
returns-in-While-clause-made c =
    let decls = c.args.decls.now in
    let proc = c.args.proc.now in
    let rest = block_of c.args.rest.now in
    let next = next_of (point_at proc c.args.point) in
    where-done c.left.result (c.left.new.made ≡ (tested_sequent decls proc c.in-While.note (Not c.in-While.test) next)) (c.left.new.made ≡ exit_at decls proc (followed c.args.command.now rest) next) c.left.ensures.made (λ e. e ∙ (ap (λ b. exit_at decls proc b next) (sym (while-followed c.in-While.test c.in-While.note c.in-While.body rest)) ∙ sym (ap (λ (x : Command). exit_at decls proc (followed x rest) next) c.in-While.is)))

pub returns-in-While-clause-limit : goal.returns-in-While-clause-limit
returns-in-While-clause-limit c h =
    let decls = c.args.decls.now in
    let proc = c.args.proc.now in
    let rest = block_of c.args.rest.now in
    let next = next_of (point_at proc c.args.point) in
    sym (ap (λ (s : Sequent). is_oversized s.goal) (ap (λ b. exit_at decls proc b next) (sym (while-followed c.in-While.test c.in-While.note c.in-While.body rest)) ∙ sym (ap (λ (x : Command). exit_at decls proc (followed x rest) next) c.in-While.is))) ∙ c.left.ensures.limit h
