-- What is given to a soup.
use Rattle.std.specs.Prelude.{ℕ, ◌<◌}
use Rattle.dl_model.specs.declared.history.Call.{Call}
use Rattle.dl_model.specs.declared.history.Call.TheVariants as call
use Rattle.dl_model.specs.declared.protocol.Instances.{Instances}
use Rattle.dl_model.specs.Machine.{listed}
use Rattle.dl_state.specs.declared.shape.Shape.{Shape}
use Rattle.dl_state.specs.Shapes.{shape_state, EachIsFilled}
use Rattle.dl_proto.specs.Shaped.{IsShaped}
use Rattle.dl_proto.specs.Given.{SendIsGiven}

-- The shape has the nodes of the instances and, for each label, the fields of its protocol, each with a first value for
-- each node.
pub record ShapeIsGiven (inst : Instances) (shape : Shape) : Type 0 where
  pub filled : EachIsFilled shape
  pub shaped : IsShaped inst (shape_state shape)

-- A send is of a tag that exists, with as many arguments as the tag has.
abbrev pub CallIsGiven : Instances → ℕ → Call → Type 0
CallIsGiven inst node (call.Send label tag to args) = SendIsGiven inst label tag node (listed args)
CallIsGiven inst node (call.Poll label tag) = node < inst.nodes
CallIsGiven inst node (call.Await label tag) = node < inst.nodes
CallIsGiven inst node (call.Read label field index) = node < inst.nodes
