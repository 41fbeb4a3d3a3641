use Rattle.std.proofs.Common.{refl}
use Rattle.dl_term.specs.Syntax.{opened}
use Rattle.dl_sequent.proofs.laws.obligations_compute.Goals as goal

pub returns-clause-count_at_first : goal.returns-clause-count_at_first
unfolding opened
returns-clause-count_at_first c = refl

pub returns-clause-count_after_a_send : goal.returns-clause-count_after_a_send
unfolding opened
returns-clause-count_after_a_send c = refl

pub returns-clause-mail_after_a_send : goal.returns-clause-mail_after_a_send
unfolding opened
returns-clause-mail_after_a_send c = refl

pub returns-clause-mail_after_a_receive : goal.returns-clause-mail_after_a_receive
unfolding opened
returns-clause-mail_after_a_receive c = refl
