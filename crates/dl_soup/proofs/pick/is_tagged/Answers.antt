use Rattle.std.proofs.Common.{ℕ, ◌==◌, ap, ◌∙◌}
use Rattle.dl_term.specs.State.{message_at}
use Rattle.dl_soup.proofs.MatchLemmas.{tag-same}
use Rattle.dl_soup.proofs.pick.is_tagged.Goals as goal

pub returns : goal.returns
returns c = ap (λ (t : ℕ). t == c.args.wanted.now.tag) (c.tag.ensures ∙ tag-same (message_at c.args.state.now.state c.args.wanted.now.label c.args.id))
