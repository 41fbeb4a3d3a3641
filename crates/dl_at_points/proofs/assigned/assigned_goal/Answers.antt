use Rattle.dl_subst.specs.Substitution.{substituted}
use Rattle.dl_term.specs.Measures.{is_oversized}
use Rattle.dl_inv.proofs.Listing.{where-done}
use Rattle.dl_points.proofs.Sized.{larger-too, substituted-fits}
use Rattle.dl_triples.specs.Points.{next_of, point_at}
use Rattle.std.proofs.Common.{ap, rules, sym, Err, ◌∙◌, ◌≡◌}
use Rattle.dl_inv.specs.declared.sequents.BuildFault.{BuildFault}
use Rattle.dl_at_points.proofs.assigned.assigned_goal.Goals as goal

pub returns-clause-made : goal.returns-clause-made
returns-clause-made c =
    let next = next_of (point_at c.args.proc.now c.args.point) in
    where-done c.value_over.result (c.value_over.new.formula ≡ substituted c.next_of_point.new.formula c.args.into c.args.term.now) (c.value_over.new.formula ≡ substituted next c.args.into c.args.term.now)
    c.value_over.ensures.made (λ e. e ∙ ap (λ f. substituted f c.args.into c.args.term.now) c.in_ok-next_of_point.ensures.made)

pub returns-clause-limit : goal.returns-clause-limit
returns-clause-limit c h =
    sym (ap (λ f. is_oversized (substituted f c.args.into c.args.term.now)) c.in_ok-next_of_point.ensures.made) ∙ c.value_over.ensures.limit h

pub returns-in_err-next_of_point-clause-limit : goal.returns-in_err-next_of_point-clause-limit
returns-in_err-next_of_point-clause-limit c h =
    let next = next_of (point_at c.args.proc.now c.args.point) in
    let same : c.from_residual.result ≡ Err c.in_err-next_of_point.field-0.0 = search rules in
    let was : c.next_of_point.result ≡ Err BuildFault.Limit = cc (h, same, c.in_err-next_of_point.was) in
    larger-too next (substituted next c.args.into c.args.term.now) (substituted-fits next c.args.into c.args.term.now) (c.next_of_point.ensures.limit was)
