use Rattle.std.proofs.Common.{eq-eqb, eqb-true}
use Rattle.dl_term.specs.Syntax.{opened}
use Rattle.dl_term.proofs.Quantifiers.{every_below-at, every_below-all, some_below-found, some_below-true, implied, implies-true, both-true, and-true}
use Rattle.dl_term.proofs.laws.quantifiers_read.Goals as goal

pub returns-clause-all : goal.returns-clause-all
unfolding opened
returns-clause-all c x f names state =
    (λ h node lt. every_below-at state.nodes _ h node lt, λ h. every_below-all state.nodes _ h)

pub returns-clause-exists : goal.returns-clause-exists
unfolding opened
returns-clause-exists c x f names state =
    (λ h. some_below-found state.nodes _ h, λ h. some_below-true h.0 state.nodes _ h.1 h.2)

pub returns-clause-each : goal.returns-clause-each
unfolding opened
returns-clause-each c m label tag f names state = (
  λ h id is. implied _ _ (every_below-at _ _ h id is.0) (eq-eqb _ _ is.1),
  λ h. every_below-all _ _ (λ id lt. implies-true _ _ (λ e. h id (lt, eqb-true _ _ e))),
)

pub returns-clause-any : goal.returns-clause-any
unfolding opened
returns-clause-any c m label tag f names state = (
  λ h. let found = some_below-found _ _ h in let parts = both-true _ _ found.2 in (found.0, (found.1, eqb-true _ _ parts.0), parts.1),
  λ h. some_below-true h.0 _ _ h.1.0 (and-true _ _ (eq-eqb _ _ h.1.1) h.2),
)
