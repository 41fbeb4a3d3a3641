-- What a soup keeps.
use Rattle.dl_model.specs.Formed.{InstancesAreFormed}
use Rattle.dl_model.specs.Histories.{SoupLeads}
use Rattle.dl_model.specs.Delivery.{IsUnder}
use Rattle.dl_state.specs.Shapes.{shape_state}
use Rattle.dl_proto.specs.Shaped.{IsShaped}
use Rattle.dl_soup.specs.Seen.{Seen}

-- The history is one of the soup under its order, and leads from the first state to the state, which has the nodes, labels
-- and fields of the instances.
pub record IsKept (soup : Seen) : Type 0 where
  pub formed : InstancesAreFormed soup.inst
  pub shaped : IsShaped soup.inst soup.state
  pub leads : SoupLeads soup.inst (shape_state soup.shape) soup.history soup.state
  pub under : IsUnder soup.order 0 soup.inst (shape_state soup.shape) soup.history
