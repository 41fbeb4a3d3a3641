use Rattle.std.proofs.Common.{◌≡◌, Some, None, slice_get, ap, ◌∙◌, rules}
use Rattle.dl_term.specs.State.{soup_at}
use Rattle.dl_state.specs.Known.{Known}
use Rattle.dl_soup.specs.Live.{live_in}
use Rattle.dl_soup.proofs.RowLemmas.{row-found, row-lacks}
use Rattle.dl_soup.proofs.pool.Pool.live.Goals as goal

pub returns-in-Some : goal.returns-in-Some
returns-in-Some c =
    let found : slice_get c.self.inside.live.items c.args.label ≡ Some c.in-Some.row.now = search (rules, c.in-Some.ensures) in
    c.as_slice-in-Some.ensures
    ∙ row-found c.self.inside.live.items c.self.inside.state.state c.args.label c.in-Some.row.now c.self.invariant.live found
    ∙ ap (λ (k : Known). live_in (soup_at k.state c.args.label)) c.self.view_is

pub returns-in-None : goal.returns-in-None
returns-in-None c =
    let lacks : slice_get c.self.inside.live.items c.args.label ≡ None = search (rules, c.in-None.ensures) in
    row-lacks c.self.inside.live.items c.self.inside.state.state c.args.label c.self.invariant.live lacks
    ∙ ap (λ (k : Known). live_in (soup_at k.state c.args.label)) c.self.view_is
