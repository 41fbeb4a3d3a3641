use Rattle.dl_term.specs.Measures.{is_oversized}
use Rattle.dl_inv.proofs.Listing.{where-done}
use Rattle.dl_triples.specs.Points.{next_of, point_at}
use Rattle.dl_wp.specs.Before.{before_sent}
use Rattle.dl_wp.specs.Captures.{captures, nothing_around}
use Rattle.dl_wp.specs.Steps.{send_step}
use Rattle.std.proofs.Common.{None, ap, sym, ◌∙◌, ◌≡◌}
use Rattle.dl_at_points.proofs.sent.sent_goal.Goals as goal

pub sent_over-requires : goal.sent_over-requires
sent_over-requires c = ap (λ f. captures (send_step c.args.inst.now None c.args.step.now) nothing_around f) c.in_ok-next_on_the_way.ensures ∙ c.requires

pub returns-clause-made : goal.returns-clause-made
returns-clause-made c =
    let next = next_of (point_at c.args.proc.now c.args.point) in
    where-done c.sent_over.result (c.sent_over.new.formula ≡ before_sent c.args.inst.now None c.args.step.now c.next_on_the_way.new.formula) (c.sent_over.new.formula ≡ before_sent c.args.inst.now None c.args.step.now next)
    c.sent_over.ensures.made (λ e. e ∙ ap (λ f. before_sent c.args.inst.now None c.args.step.now f) c.in_ok-next_on_the_way.ensures)

pub returns-clause-limit : goal.returns-clause-limit
returns-clause-limit c h = sym (ap (λ f. is_oversized (before_sent c.args.inst.now None c.args.step.now f)) c.in_ok-next_on_the_way.ensures) ∙ c.sent_over.ensures.limit h
