use Rattle.std.proofs.Common.{◌≡◌, map, take}
use Rattle.dl_state.specs.Shapes.{shape_statelet}
use Rattle.dl_state.specs.Kept.{statelet_of}
use Rattle.dl_state.proofs.world.WorldState.init.Given as goal

abbrev pub invariant-loop-fields : goal.invariant-loop-fields
invariant-loop-fields l = map statelet_of l.labels.items ≡ map (shape_statelet l.shape.nodes) (take l.fields-index l.fields-items)
