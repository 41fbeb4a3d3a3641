use Rattle.std.proofs.Common.{◌≡◌}
use Rattle.dl_model.specs.States.{first_state}
use Rattle.dl_state.specs.Shapes.{shape_state, EachIsFilled}
use Rattle.dl_world.specs.Shaped.{shape_of}
use Rattle.dl_world.proofs.Shaping.{shape-first, shape-filled, where-made}
use Rattle.dl_world.proofs.shapes.shape.Goals as goal

pub returns-clause-filled : goal.returns-clause-filled
returns-clause-filled c =
    let inst = c.args.decls.now.inst in
    where-made EachIsFilled c.shape_of_instances.result (shape_of inst) c.shape_of_instances.ensures (shape-filled inst)

pub returns-clause-first : goal.returns-clause-first
returns-clause-first c =
    let inst = c.args.decls.now.inst in
    where-made (λ shape. shape_state shape ≡ first_state inst) c.shape_of_instances.result (shape_of inst) c.shape_of_instances.ensures (shape-first inst)
