-- The shape of the states of a file.
use Rattle.std.specs.Prelude.{ℕ, List, map}
use Rattle.std.specs.List.{range_with_len}
use Rattle.std.specs.Prelude.{Some}
use Rattle.dl_model.specs.declared.protocol.FieldDecl.{FieldDecl}
use Rattle.dl_model.specs.declared.protocol.Instances.{Instances}
use Rattle.dl_model.specs.Lookup.{protocol_in}
use Rattle.dl_model.specs.States.{first_value}
use Rattle.dl_state.specs.declared.shape.FieldShape.{FieldShape}
use Rattle.dl_state.specs.declared.shape.Shape.{Shape}

-- a field has its first value at each node
abbrev pub field_shape : ℕ → FieldDecl → FieldShape
field_shape nodes field = record { row = field.row; first = map (first_value field) (range_with_len 0 nodes) }

abbrev pub label_shape : Instances → ℕ → List FieldShape
label_shape inst protocol = map (field_shape inst.nodes) (protocol_in inst (Some protocol)).fields

-- the declared nodes, and the fields of each label
abbrev pub shape_of : Instances → Shape
shape_of inst = record { nodes = inst.nodes; labels = map (label_shape inst) inst.of }
