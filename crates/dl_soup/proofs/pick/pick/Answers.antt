use Rattle.std.proofs.Common.{◌/◌, ◌%◌, ◌^◌, ℕ, List, None, length, ap, sym, ◌∙◌}
use Rattle.std.specs.Prelude.{slice_get}
use Rattle.std.specs.List.{last_or}
use Rattle.dl_model.specs.declared.history.Order.{Order}
use Rattle.dl_model.specs.Delivery.{matches}
use Rattle.dl_soup.specs.Replies.{taken}
use Rattle.dl_soup.proofs.MatchLemmas.{live-matches}
use Rattle.dl_soup.proofs.pick.pick.Goals as goal

pub returns-in-Oldest : goal.returns-in-Oldest
returns-in-Oldest c =
    let found =
    live-matches c.args.inst.now c.live-ids.result.now c.state-state.result.now c.args.pool.now c.args.wanted.now.node c.args.wanted.now.label c.args.wanted.now.tag c.state-state.ensures c.live-ids.ensures in
    c.nth_match.ensures
    ∙ ap (λ (xs : List ℕ). slice_get xs 0) found
    ∙ ap (λ (o : Order). taken o c.args.x (matches c.args.inst.now c.args.pool.now.state c.args.wanted.now.node c.args.wanted.now.label c.args.wanted.now.tag)) (sym c.in-Oldest.is)

pub returns-in-Newest : goal.returns-in-Newest
returns-in-Newest c =
    let found =
    live-matches c.args.inst.now c.live-ids.result.now c.state-state.result.now c.args.pool.now c.args.wanted.now.node c.args.wanted.now.label c.args.wanted.now.tag c.state-state.ensures c.live-ids.ensures in
    c.last_match.ensures
    ∙ ap (λ (xs : List ℕ). last_or None xs) found
    ∙ ap (λ (o : Order). taken o c.args.x (matches c.args.inst.now c.args.pool.now.state c.args.wanted.now.node c.args.wanted.now.label c.args.wanted.now.tag)) (sym c.in-Newest.is)

pub returns-in-Seed : goal.returns-in-Seed
returns-in-Seed c =
    let found =
    live-matches c.args.inst.now c.live-ids.result.now c.state-state.result.now c.args.pool.now c.args.wanted.now.node c.args.wanted.now.label c.args.wanted.now.tag c.state-state.ensures c.live-ids.ensures in
    c.drawn_match.ensures
    ∙ ap (λ (xs : List ℕ). slice_get xs ((c.args.x / (2 ^ 33)) % length xs)) found
    ∙ ap (λ (o : Order). taken o c.args.x (matches c.args.inst.now c.args.pool.now.state c.args.wanted.now.node c.args.wanted.now.label c.args.wanted.now.tag)) (sym c.in-Seed.is)
