use Rattle.std.proofs.Common.{pos, None, [], ◌∷◌, refl, lit<, inr}
use Rattle.dl_model.specs.Examples.{counts, inc_message}
use Rattle.dl_model.specs.Runs.{Config}
use Rattle.dl_term.specs.Syntax.{opened}
use Rattle.dl_model.proofs.laws.counter_computes.Goals as goal

-- ---- the run

abbrev sent_once : Config
sent_once = record { state = counts (pos 1) (pos 0) (inc_message 0 (pos 1) ∷ []); machines = λ node. None }

abbrev sent_twice : Config
sent_twice = record { state = counts (pos 1) (pos 1) (inc_message 0 (pos 1) ∷ inc_message 1 (pos 0) ∷ []); machines = λ node. None }

pub returns-clause-sends : goal.returns-clause-sends
unfolding opened
returns-clause-sends c = (
  sent_twice,
  (
    sent_once,
    record {
      node = lit< tt;
      label = refl;
      acts = inr (record { free = refl; ticks = refl; allowed = (refl, record { addressee = refl; arguments = refl; guard = refl; updates = refl }, λ hook m c t. cc); state = refl; machines = λ node. refl });
    },
    (
      sent_twice,
      record {
        node = lit< tt;
        label = refl;
        acts = inr (record { free = refl; ticks = refl; allowed = (refl, record { addressee = refl; arguments = refl; guard = refl; updates = refl }, λ hook m c t. cc); state = refl; machines = λ node. refl });
      },
      refl,
    ),
  ),
  refl,
)

pub returns-clause-first : goal.returns-clause-first
unfolding opened
returns-clause-first c = refl

pub returns-clause-keeps : goal.returns-clause-keeps
unfolding opened
returns-clause-keeps c = refl

pub returns-clause-breaks : goal.returns-clause-breaks
unfolding opened
returns-clause-breaks c = refl
