-- The sides that the code has, by reference, as sides of terms.
use Rattle.std.specs.Prelude.{Option, Some, None, List, map}
use Rattle.dl_linear.specs.declared.sides.Sides.{Sides as CodeSides}
use Rattle.dl_linear.specs.Forms.{Sides}

abbrev pub seen : CodeSides → Sides
seen sides = record { left = sides.left.now; right = sides.right.now; gap = sides.gap; equal = sides.equal }

abbrev pub seen_sides : Option CodeSides → Option Sides
seen_sides (Some sides) = Some (seen sides)
seen_sides None = None

abbrev pub all_seen : List (Option CodeSides) → List (Option Sides)
all_seen sides = map seen_sides sides
