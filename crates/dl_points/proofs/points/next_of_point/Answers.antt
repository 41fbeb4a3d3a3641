use Rattle.std.proofs.Common.{◌≡◌, ◌-◌, List, sym, ◌∙◌, ap, arith}
use Rattle.dl_term.specs.Measures.{is_oversized}
use Rattle.dl_model.specs.declared.program.Command.{Command}
use Rattle.dl_model.specs.Block.{block_of}
use Rattle.dl_triples.specs.Points.{post_of, next_of, point_at}
use Rattle.dl_points.specs.Finding.{next_in}
use Rattle.dl_inv.proofs.Listing.{where-done}
use Rattle.dl_points.proofs.Finding.{point-next, point-last}
use Rattle.dl_points.proofs.points.next_of_point.Goals as goal

pub returns-then-point-eq0-clause-made : goal.returns-then-point-eq0-clause-made
returns-then-point-eq0-clause-made c = c.put_formula.ensures ∙ point-last c.args.proc.now c.args.point c.if-point-eq0.true

pub returns-clause-made : goal.returns-clause-made
returns-clause-made c =
    let proc = c.args.proc.now in
    let is = ap (λ (cs : List Command). next_in (block_of cs) (post_of proc) (c.args.point - 1)) c.as_slice.ensures ∙ point-next proc c.args.point (omega (arith, c.if-point-eq0.false)) in
    where-done c.next_over.result (c.next_over.new.formula ≡ next_in (block_of c.as_slice.result.now) (post_of proc) (c.args.point - 1)) (c.next_over.new.formula ≡ next_of (point_at proc c.args.point)) c.next_over.ensures.made
    (λ e. e ∙ is)

pub returns-clause-limit : goal.returns-clause-limit
returns-clause-limit c h =
    let proc = c.args.proc.now in
    let is = ap (λ (cs : List Command). next_in (block_of cs) (post_of proc) (c.args.point - 1)) c.as_slice.ensures ∙ point-next proc c.args.point (omega (arith, c.if-point-eq0.false)) in
    sym (ap is_oversized is) ∙ c.next_over.ensures.limit h
