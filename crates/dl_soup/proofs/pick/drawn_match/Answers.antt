use Rattle.std.proofs.Common.{◌/◌, ◌%◌, ◌^◌, ℕ, ap, ◌∙◌}
use Rattle.std.specs.Prelude.{slice_get}
use Rattle.std.specs.List.{filter}
use Rattle.dl_model.specs.Delivery.{is_match}
use Rattle.dl_soup.proofs.PickLemmas.{drawn-none}
use Rattle.dl_soup.proofs.pick.drawn_match.Goals as goal

pub returns-then-count-eq0 : goal.returns-then-count-eq0
returns-then-count-eq0 c = drawn-none _ c.count_matches-count.result _ c.count_matches-count.ensures c.if-count-eq0.true

pub returns : goal.returns
returns c =
    let xs = filter (is_match c.args.inst.now c.args.state.now.state c.args.wanted.now.node c.args.wanted.now.label c.args.wanted.now.tag) c.args.ids.now in
    c.nth_match.ensures ∙ ap (λ (n : ℕ). slice_get xs ((c.args.x / (2 ^ 33)) % n)) c.count_matches-count.ensures
