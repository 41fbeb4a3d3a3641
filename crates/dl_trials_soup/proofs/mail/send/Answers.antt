use Rattle.std.proofs.Common.{ap, ◌∙◌}
use Rattle.dl_soup.specs.Seen.{Seen}
use Rattle.dl_trials_soup.proofs.Letters.{sent-given}
use Rattle.dl_trials_soup.proofs.mail.send.Goals as goal

pub act-requires-clause-given : goal.act-requires-clause-given
act-requires-clause-given c = sent-given c.args.soup.now.inst _ c.requires.inst

pub returns-clause-inst : goal.returns-clause-inst
returns-clause-inst c = ap (λ (s : Seen). s.inst) c.act.ensures.soup ∙ c.requires.inst

pub returns-clause-room : goal.returns-clause-room
returns-clause-room c = ap (λ (s : Seen). s.spare) c.act.ensures.soup
