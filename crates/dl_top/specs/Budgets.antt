-- The budgets of runs.
use Rattle.std.specs.Prelude.{ℕ, ◌≤◌, Option, Some, None}
use Rattle.dl_top.specs.declared.options.Options.{Options}
use Rattle.dl_top.specs.declared.request.Command.{Command}
use Rattle.dl_top.specs.declared.request.Command.TheVariants.{Check, Show, Run}

-- a budget that was given is at most 100,000
abbrev pub IsSmall : Option ℕ → Type 0
IsSmall (Some budget) = budget ≤ 100000
IsSmall None = Unit {0}

abbrev pub HasSmallBudget : Options → Type 0
HasSmallBudget options = IsSmall options.budget

-- the budget of a run is at most 100,000
abbrev pub HasBudget : Command → Type 0
HasBudget Check = Unit {0}
HasBudget Show = Unit {0}
HasBudget (Run serial budget order) = budget ≤ 100000
