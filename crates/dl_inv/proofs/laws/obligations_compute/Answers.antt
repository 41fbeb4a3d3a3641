use Rattle.std.proofs.Common.{refl}
use Rattle.dl_term.specs.Syntax.{opened}
use Rattle.dl_inv.proofs.laws.obligations_compute.Goals as goal

pub returns-clause-counter : goal.returns-clause-counter
unfolding opened
returns-clause-counter c = refl

pub returns-clause-protocol_first : goal.returns-clause-protocol_first
unfolding opened
returns-clause-protocol_first c = refl

pub returns-clause-protocol_step : goal.returns-clause-protocol_step
unfolding opened
returns-clause-protocol_step c = refl

pub returns-clause-invariant_first : goal.returns-clause-invariant_first
unfolding opened
returns-clause-invariant_first c = refl

pub returns-clause-invariant_step : goal.returns-clause-invariant_step
unfolding opened
returns-clause-invariant_step c = refl

pub returns-clause-mail : goal.returns-clause-mail
unfolding opened
returns-clause-mail c = refl

pub returns-clause-mail_first : goal.returns-clause-mail_first
unfolding opened
returns-clause-mail_first c = refl

pub returns-clause-mail_send : goal.returns-clause-mail_send
unfolding opened
returns-clause-mail_send c = refl

pub returns-clause-mail_receive : goal.returns-clause-mail_receive
unfolding opened
returns-clause-mail_receive c = refl

pub returns-clause-voting : goal.returns-clause-voting
unfolding opened
returns-clause-voting c = refl

pub returns-clause-voting_query : goal.returns-clause-voting_query
unfolding opened
returns-clause-voting_query c = refl

pub returns-clause-guard : goal.returns-clause-guard
unfolding opened
returns-clause-guard c = refl
