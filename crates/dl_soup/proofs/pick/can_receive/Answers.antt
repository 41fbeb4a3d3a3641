use Rattle.dl_soup.proofs.MatchLemmas.{receivable-is}
use Rattle.dl_soup.proofs.pick.can_receive.Goals as goal

pub returns : goal.returns
returns c = receivable-is c.receivable.result c.args.inst.now c.args.state.now.state c.args.wanted.now.node c.args.wanted.now.label c.args.id c.receivable.ensures
