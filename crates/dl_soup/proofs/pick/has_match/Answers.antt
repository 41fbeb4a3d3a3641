use Rattle.std.proofs.Common.{ℕ, Option, ap, ◌∙◌}
use Rattle.std.specs.Prelude.{is_some}
use Rattle.std.specs.List.{filter}
use Rattle.dl_model.specs.Delivery.{is_match}
use Rattle.dl_soup.specs.Replies.{has_any}
use Rattle.dl_soup.proofs.MatchLemmas.{live-matches, some-first}
use Rattle.dl_soup.proofs.pick.has_match.Goals as goal

pub returns : goal.returns
returns c =
    c.is_some.ensures
    ∙ ap (λ (o : Option ℕ). is_some o) c.nth_match.ensures
    ∙ some-first (filter (is_match c.args.inst.now c.state.result.now.state c.args.wanted.now.node c.args.wanted.now.label c.args.wanted.now.tag) c.live.result.now)
    ∙ ap has_any (live-matches c.args.inst.now c.live.result.now c.state.result.now c.args.pool.now c.args.wanted.now.node c.args.wanted.now.label c.args.wanted.now.tag c.state.ensures c.live.ensures)
