use Rattle.dl_model.specs.Block.{block_of, followed}
use Rattle.dl_model.specs.declared.program.Command.{Command}
use Rattle.dl_model.specs.declared.sequent.Sequent.{Sequent}
use Rattle.dl_term.specs.Measures.{is_oversized}
use Rattle.dl_points.proofs.Finding.{while-followed}
use Rattle.dl_inv.proofs.Listing.{where-done}
use Rattle.dl_triples.specs.Obligations.{body_at, tested_sequent}
use Rattle.dl_triples.specs.Points.{pre_of}
use Rattle.std.proofs.Common.{List, ap, sym, ◌∙◌, ◌≡◌}
use Rattle.dl_at_points.proofs.looped.fill_body.Goals as goal

pub returns-in-While-clause-made : goal.returns-in-While-clause-made
returns-in-While-clause-made c =
    let decls = c.args.decls.now in
    let proc = c.args.proc.now in
    let rest = block_of c.args.rest.now in
    let made : List Command → Sequent = λ xs. tested_sequent decls proc c.in-While.note c.in-While.test (pre_of (block_of xs) c.in-While.note) in
    where-done c.looped.result (c.looped.new.made ≡ made c.as_slice.result.now) (c.looped.new.made ≡ body_at decls proc (followed c.args.command.now rest)) c.looped.ensures.made (λ e. e ∙ (ap made c.as_slice.ensures ∙ (ap (λ b. body_at decls proc b) (sym (while-followed c.in-While.test c.in-While.note c.in-While.body rest)) ∙ sym (ap (λ (x : Command). body_at decls proc (followed x rest)) c.in-While.is))))

pub returns-in-While-clause-limit : goal.returns-in-While-clause-limit
returns-in-While-clause-limit c h =
    let decls = c.args.decls.now in
    let proc = c.args.proc.now in
    let rest = block_of c.args.rest.now in
    let made : List Command → Sequent = λ xs. tested_sequent decls proc c.in-While.note c.in-While.test (pre_of (block_of xs) c.in-While.note) in
    sym (ap (λ (s : Sequent). is_oversized s.goal) (ap made c.as_slice.ensures ∙ (ap (λ b. body_at decls proc b) (sym (while-followed c.in-While.test c.in-While.note c.in-While.body rest)) ∙ sym (ap (λ (x : Command). body_at decls proc (followed x rest)) c.in-While.is)))) ∙ c.looped.ensures.limit h
