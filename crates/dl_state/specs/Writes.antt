-- A state with other fields, or with another soup, at one label.
use Rattle.std.specs.Prelude.{ℕ, ◌+◌, ◌<◌, ◌^◌, ℤ, List, length}
use Rattle.dl_term.specs.State.{State, Statelet, Message, statelet, soup_at}
use Rattle.dl_model.specs.Steps.{with_statelet}

abbrev pub with_fields : State → ℕ → List (List (List ℤ)) → State
with_fields state label fields = with_statelet state label (record { fields = fields; soup = soup_at state label })

abbrev pub with_soup : State → ℕ → List Message → State
with_soup state label soup = with_statelet state label (record { fields = (statelet state label).fields; soup = soup })

-- that many more messages have ids below 2^32
abbrev pub CanGrow : ℕ → Statelet → Type 0
CanGrow more at = length at.soup + more < 2 ^ 32
