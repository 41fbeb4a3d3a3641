use Rattle.std.proofs.Common.{ap, ◌∙◌}
use Rattle.dl_model.specs.Delivery.{matches}
use Rattle.dl_soup.specs.Replies.{has_any}
use Rattle.dl_soup.specs.Seen.{Seen}
use Rattle.dl_soup.proofs.soup.Soup.ready.Goals as goal

pub has_match-requires : goal.has_match-requires
has_match-requires c = c.self.invariant.kept.formed

pub returns : goal.returns
returns c = c.has_match.ensures ∙ ap (λ (s : Seen). has_any (matches s.inst s.state c.args.node c.args.label c.args.tag)) c.self.view_is
