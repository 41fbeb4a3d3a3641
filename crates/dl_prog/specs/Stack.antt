-- The path of a machine as contracts see it.
use Rattle.std.specs.Prelude.{ℕ, ◌≤◌, List, length, drop}
use Rattle.dl_prog.specs.declared.stack.Step.{Step}
use Rattle.dl_prog.specs.declared.stack.Stack.TheInside.{Inside}

-- the steps from the innermost one, and how many more there is room for
pub record Path : Type 0 where
  pub items : List Step
  pub spare : ℕ

abbrev pub path_of : Inside → Path
path_of stack = record { items = drop stack.low stack.cells.items; spare = stack.low }

abbrev pub IsWithin : Inside → Type 0
IsWithin stack = stack.low ≤ length stack.cells.items
