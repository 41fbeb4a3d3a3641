use Rattle.std.proofs.Common.{◌||◌}
use Rattle.dl_model.proofs.Small.{or-left, or-right}
use Rattle.dl_wp.proofs.FirstLaw.{first-holds}
use Rattle.dl_wp.proofs.laws.first_states_hold.Goals as goal

pub returns : goal.returns
returns c inst own formula names state formed nodes owned about closed =
    first-holds inst own formula names state formed nodes owned about (λ x. (or-left _ _ (closed x), or-right _ _ (closed x)))
