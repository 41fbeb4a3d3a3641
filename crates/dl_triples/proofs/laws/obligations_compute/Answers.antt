use Rattle.std.proofs.Common.{refl}
use Rattle.dl_term.specs.Syntax.{opened}
use Rattle.dl_triples.proofs.laws.obligations_compute.Goals as goal

pub returns-clause-mail : goal.returns-clause-mail
unfolding opened
returns-clause-mail c = refl

pub returns-clause-voting : goal.returns-clause-voting
unfolding opened
returns-clause-voting c = refl

pub returns-clause-noted : goal.returns-clause-noted
unfolding opened
returns-clause-noted c = refl

pub returns-clause-start : goal.returns-clause-start
unfolding opened
returns-clause-start c = refl

pub returns-clause-guard : goal.returns-clause-guard
unfolding opened
returns-clause-guard c = refl

pub returns-clause-after_send : goal.returns-clause-after_send
unfolding opened
returns-clause-after_send c = refl

pub returns-clause-body : goal.returns-clause-body
unfolding opened
returns-clause-body c = refl

pub returns-clause-exit : goal.returns-clause-exit
unfolding opened
returns-clause-exit c = refl

pub returns-clause-stable : goal.returns-clause-stable
unfolding opened
returns-clause-stable c = refl

pub returns-clause-got : goal.returns-clause-got
unfolding opened
returns-clause-got c = refl

pub returns-clause-miss : goal.returns-clause-miss
unfolding opened
returns-clause-miss c = refl

pub returns-clause-after_read : goal.returns-clause-after_read
unfolding opened
returns-clause-after_read c = refl

pub returns-clause-enter : goal.returns-clause-enter
unfolding opened
returns-clause-enter c = refl

pub returns-clause-leave : goal.returns-clause-leave
unfolding opened
returns-clause-leave c = refl

pub returns-clause-frame : goal.returns-clause-frame
unfolding opened
returns-clause-frame c = refl

pub returns-clause-post : goal.returns-clause-post
unfolding opened
returns-clause-post c = refl

pub returns-clause-deploy : goal.returns-clause-deploy
unfolding opened
returns-clause-deploy c = refl
