use Rattle.std.proofs.Common.{◌≡◌, pos, sym, ap, ◌∙◌}
use Rattle.dl_model.specs.Block.{block_of, followed}
use Rattle.dl_model.specs.declared.program.Command.{Command}
use Rattle.dl_term.specs.Measures.{is_oversized}
use Rattle.dl_term.specs.declared.syntax.Term.{Num}
use Rattle.dl_triples.specs.Obligations.{assigned_sequent, missed_at}
use Rattle.dl_triples.specs.Points.{next_of, point_at}
use Rattle.dl_inv.proofs.Listing.{where-done}
use Rattle.dl_at_points.proofs.assigned.fill_missed.Goals as goal

pub returns-in-Poll-clause-made : goal.returns-in-Poll-clause-made
returns-in-Poll-clause-made c =
    let decls = c.args.decls.now in
    let proc = c.args.proc.now in
    let rest = block_of c.args.rest.now in
    let next = next_of (point_at proc c.args.point) in
    where-done c.missed.result (c.missed.new.made ≡ assigned_sequent decls proc c.in-Poll.note c.in-Poll.got (Num (pos 0)) next) (c.missed.new.made ≡ missed_at decls proc (followed c.args.command.now rest) next) c.missed.ensures.made
    (λ e. e ∙ sym (ap (λ (x : Command). missed_at decls proc (followed x rest) next) c.in-Poll.is))

pub returns-in-Poll-clause-limit : goal.returns-in-Poll-clause-limit
returns-in-Poll-clause-limit c h =
    let decls = c.args.decls.now in
    let proc = c.args.proc.now in
    let rest = block_of c.args.rest.now in
    let next = next_of (point_at proc c.args.point) in
    ap (λ (x : Command). is_oversized (missed_at decls proc (followed x rest) next).goal) c.in-Poll.is ∙ c.missed.ensures.limit h
