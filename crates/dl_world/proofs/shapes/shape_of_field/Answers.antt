use Rattle.std.proofs.Common.{arith}
use Rattle.std.proofs.lemmas.List.FromFn.{map-range_with_len_more}
use Rattle.dl_model.specs.States.{first_value}
use Rattle.dl_world.proofs.shapes.shape_of_field.Goals as goal

pub loop-node-preserved : goal.loop-node-preserved
loop-node-preserved c =
    let more = map-range_with_len_more (first_value c.args.field.now) 0 c.loop-node.node c.loop-node.node (omega arith) in
    grind (arith, more, c.in_ok-push.ensures.ok, c.value_at.ensures, c.loop-node.invariant)
