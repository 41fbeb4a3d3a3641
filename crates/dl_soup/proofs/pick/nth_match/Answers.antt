use Rattle.std.proofs.Common.{◌+◌, ℕ, length, take, get_or, refl, ap, sym, ◌∙◌}
use Rattle.std.specs.List.{filter}
use Rattle.dl_model.specs.Delivery.{is_match}
use Rattle.dl_soup.proofs.PickLemmas.{nth-found, nth-more, nth-none}
use Rattle.dl_soup.proofs.pick.nth_match.Goals as goal

pub returns-then-is_wanted : goal.returns-then-is_wanted
returns-then-is_wanted c =
    nth-found (is_match c.args.inst.now c.args.state.now.state c.args.wanted.now.node c.args.wanted.now.label c.args.wanted.now.tag) c.args.ids.now c.loop-id.id-index
    (get_or c.args.ids.now c.loop-id.id-index 0) c.loop-id.left c.args.number c.is_match-hit.result c.loop-id-test.true refl c.is_match-hit.ensures (sym c.is_wanted.ensures ∙ c.if-is_wanted.true) c.loop-id.invariant

pub loop-id-preserved : goal.loop-id-preserved
loop-id-preserved c =
    let p = is_match c.args.inst.now c.args.state.now.state c.args.wanted.now.node c.args.wanted.now.label c.args.wanted.now.tag in
    ap (λ (n : ℕ). length (filter p (take (c.loop-id.id-index + 1) c.args.ids.now)) + n) c.still_left-left.ensures
    ∙ nth-more p c.args.ids.now c.loop-id.id-index (get_or c.args.ids.now c.loop-id.id-index 0) c.loop-id.left c.args.number c.is_match-hit.result c.loop-id-test.true refl
    c.is_match-hit.ensures (sym c.is_wanted.ensures ∙ c.if-is_wanted.false) c.loop-id.invariant

pub returns : goal.returns
returns c =
    nth-none (is_match c.args.inst.now c.args.state.now.state c.args.wanted.now.node c.args.wanted.now.label c.args.wanted.now.tag) c.args.ids.now c.loop-id.id-index c.loop-id.left c.args.number
    c.loop-id-test.false c.loop-id.invariant
