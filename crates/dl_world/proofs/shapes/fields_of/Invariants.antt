use Rattle.std.proofs.Common.{◌≡◌, map, take}
use Rattle.dl_world.specs.Shaped.{field_shape}
use Rattle.dl_world.proofs.shapes.fields_of.Given as goal

abbrev pub invariant-loop-field : goal.invariant-loop-field
invariant-loop-field l = l.shapes ≡ map (field_shape l.inst.nodes) (take l.field-index l.field-items)
