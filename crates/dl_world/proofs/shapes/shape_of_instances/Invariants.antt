use Rattle.std.proofs.Common.{◌≡◌, map, take}
use Rattle.dl_world.specs.Shaped.{label_shape}
use Rattle.dl_world.proofs.shapes.shape_of_instances.Given as goal

abbrev pub invariant-loop-protocol : goal.invariant-loop-protocol
invariant-loop-protocol l = l.labels ≡ map (label_shape l.inst) (take l.protocol-index l.protocol-items)
