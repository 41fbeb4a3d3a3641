use Rattle.std.proofs.Common.{◌≡◌, map}
use Rattle.std.specs.List.{range_with_len}
use Rattle.dl_model.specs.States.{first_value}
use Rattle.dl_world.proofs.shapes.shape_of_field.Given as goal

abbrev pub invariant-loop-node : goal.invariant-loop-node
invariant-loop-node l = l.first ≡ map (first_value l.field) (range_with_len 0 l.node)
