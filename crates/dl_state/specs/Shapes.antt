-- The state that a shape stands for.
use Rattle.std.specs.Prelude.{◌≡◌, ℕ, ℤ, List, [], map, length, replicate, if◌then◌else◌}
use Rattle.std.specs.List.{All}
use Rattle.dl_term.specs.State.{State, Statelet}
use Rattle.dl_state.specs.declared.shape.FieldShape.{FieldShape}
use Rattle.dl_state.specs.declared.shape.Shape.{Shape}

-- how many numbers a node has
abbrev pub shape_width : ℕ → FieldShape → ℕ
shape_width nodes field = if field.row then nodes else 1

abbrev pub shape_column : ℕ → FieldShape → List (List ℤ)
shape_column nodes field = map (λ value. replicate (shape_width nodes field) value) field.first

abbrev pub shape_statelet : ℕ → List FieldShape → Statelet
shape_statelet nodes fields = record { fields = map (shape_column nodes) fields; soup = [] }

-- each number is the declared first one of its node, and the soups are empty
abbrev pub shape_state : Shape → State
shape_state shape = record { nodes = shape.nodes; labels = map (shape_statelet shape.nodes) shape.labels }

-- a first value for each node
abbrev pub IsFilled : ℕ → FieldShape → Type 0
IsFilled nodes field = length field.first ≡ nodes

abbrev pub EachIsFilled : Shape → Type 0
EachIsFilled shape = All (All (IsFilled shape.nodes)) shape.labels
