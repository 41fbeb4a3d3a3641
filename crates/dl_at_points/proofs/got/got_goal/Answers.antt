use Rattle.dl_term.specs.Measures.{is_oversized}
use Rattle.dl_inv.proofs.Listing.{where-done}
use Rattle.dl_triples.specs.Obligations.{put}
use Rattle.dl_triples.specs.Points.{next_of, point_at}
use Rattle.dl_wp.specs.Before.{before_received}
use Rattle.dl_wp.specs.Captures.{captures, nothing_around}
use Rattle.dl_wp.specs.Steps.{receive_step}
use Rattle.std.proofs.Common.{None, ap, sym, ◌∙◌, ◌≡◌}
use Rattle.dl_at_points.proofs.got.got_goal.Goals as goal

pub received_over-requires : goal.received_over-requires
received_over-requires c =
    let with = c.in_ok-terms_over.ensures ∙ ap (λ f. put f c.args.targets.now c.args.terms.now) c.in_ok-next_on_the_way.ensures in
    ap (λ f. captures (receive_step c.args.inst.now None c.args.step.now) nothing_around f) with ∙ c.requires

pub returns-clause-made : goal.returns-clause-made
returns-clause-made c =
    let next = put (next_of (point_at c.args.proc.now c.args.point)) c.args.targets.now c.args.terms.now in
    let with = c.in_ok-terms_over.ensures ∙ ap (λ f. put f c.args.targets.now c.args.terms.now) c.in_ok-next_on_the_way.ensures in
    where-done c.received_over.result (c.received_over.new.formula ≡ before_received c.args.inst.now None c.args.step.now c.terms_over.new.formula) (c.received_over.new.formula ≡ before_received c.args.inst.now None c.args.step.now next)
    c.received_over.ensures.made (λ e. e ∙ ap (λ f. before_received c.args.inst.now None c.args.step.now f) with)

pub returns-clause-limit : goal.returns-clause-limit
returns-clause-limit c h =
    let with = c.in_ok-terms_over.ensures ∙ ap (λ f. put f c.args.targets.now c.args.terms.now) c.in_ok-next_on_the_way.ensures in
    sym (ap (λ f. is_oversized (before_received c.args.inst.now None c.args.step.now f)) with) ∙ c.received_over.ensures.limit h
