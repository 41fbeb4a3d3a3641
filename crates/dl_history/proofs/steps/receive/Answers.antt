use Rattle.std.proofs.Common.{sym, ◌∙◌, ap, subst}
use Rattle.dl_state.specs.Known.{Known}
use Rattle.dl_history.specs.Taken.{ReceiptIsGiven, after_receipt}
use Rattle.dl_history.proofs.steps.receive.Goals as goal

pub apply_receive-requires-clause-given : goal.apply_receive-requires-clause-given
apply_receive-requires-clause-given c = subst (ReceiptIsGiven c.args.inst.now c.args.state.now.state c.args.node c.args.label) c.in-Got.is c.requires.given

pub returns-in-Got-clause-state : goal.returns-in-Got-clause-state
returns-in-Got-clause-state c = ap (λ (k : Known). k.state) c.apply_receive.ensures ∙ ap (after_receipt c.args.inst.now c.args.state.now.state c.args.node c.args.label) (sym c.in-Got.is)
