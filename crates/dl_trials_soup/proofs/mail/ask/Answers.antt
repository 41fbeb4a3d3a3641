use Rattle.std.proofs.Common.{ap, sym, subst, ◌∙◌}
use Rattle.dl_model.specs.declared.protocol.Instances.{Instances}
use Rattle.dl_soup.specs.Given.{CallIsGiven}
use Rattle.dl_soup.specs.Seen.{Seen}
use Rattle.dl_trials_soup.proofs.mail.ask.Goals as goal

pub act-requires-clause-given : goal.act-requires-clause-given
act-requires-clause-given c = subst (λ (i : Instances). CallIsGiven i c.args.node c.args.call.now) (sym c.requires.inst) c.requires.given

pub returns-clause-inst : goal.returns-clause-inst
returns-clause-inst c = ap (λ (s : Seen). s.inst) c.act.ensures.soup ∙ c.requires.inst

pub returns-clause-room : goal.returns-clause-room
returns-clause-room c = ap (λ (s : Seen). s.spare) c.act.ensures.soup
