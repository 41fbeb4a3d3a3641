use Rattle.std.proofs.Common.{Some, ap, ◌∙◌}
use Rattle.dl_state.specs.Known.{Known}
use Rattle.dl_soup.specs.Replies.{got_or_miss}
use Rattle.dl_soup.proofs.ReplyLemmas.{known-label}
use Rattle.dl_soup.proofs.answer.take.Goals as goal

pub receive-requires-clause-given : goal.receive-requires-clause-given
receive-requires-clause-given c = record {
  label = known-label c.args.inst.now c.args.pool.now.state c.args.wanted.now.label c.args.id c.requires.shaped c.requires.known;
  id = c.requires.known;
  node = c.requires.node;
}

pub returns-clause-reply : goal.returns-clause-reply
returns-clause-reply c = c.got-reply.ensures ∙ ap (λ (k : Known). got_or_miss k.state c.args.wanted.now.label (Some c.args.id)) c.state.ensures
