use Rattle.std.proofs.Common.{◌≡◌, sym, ap, ◌∙◌}
use Rattle.dl_model.specs.Block.{block_of, followed}
use Rattle.dl_model.specs.declared.program.Command.{Command}
use Rattle.dl_term.specs.Measures.{is_oversized}
use Rattle.dl_triples.specs.Obligations.{assigned_sequent, read_at, term_read}
use Rattle.dl_triples.specs.Points.{next_of, point_at}
use Rattle.dl_inv.proofs.Listing.{where-done}
use Rattle.dl_at_points.proofs.assigned.fill_read.Goals as goal

pub returns-in-Read-clause-made : goal.returns-in-Read-clause-made
returns-in-Read-clause-made c =
    let decls = c.args.decls.now in
    let proc = c.args.proc.now in
    let rest = block_of c.args.rest.now in
    let next = next_of (point_at proc c.args.point) in
    where-done c.read.result (c.read.new.made ≡ assigned_sequent decls proc c.in-Read.note c.in-Read.into (term_read c.in-Read.label c.in-Read.field c.in-Read.index) next) (c.read.new.made ≡ read_at decls proc (followed c.args.command.now rest) next) c.read.ensures.made
    (λ e. e ∙ sym (ap (λ (x : Command). read_at decls proc (followed x rest) next) c.in-Read.is))

pub returns-in-Read-clause-limit : goal.returns-in-Read-clause-limit
returns-in-Read-clause-limit c h =
    let decls = c.args.decls.now in
    let proc = c.args.proc.now in
    let rest = block_of c.args.rest.now in
    let next = next_of (point_at proc c.args.point) in
    ap (λ (x : Command). is_oversized (read_at decls proc (followed x rest) next).goal) c.in-Read.is ∙ c.read.ensures.limit h
