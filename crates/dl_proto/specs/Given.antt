-- What is given to a step exists.
use Rattle.std.specs.Prelude.{◌≡◌, ℕ, ◌<◌, ℤ, List, length}
use Rattle.dl_term.specs.State.{State, soup_at}
use Rattle.dl_model.specs.declared.protocol.Instances.{Instances}
use Rattle.dl_model.specs.Lookup.{protocol_at, tag_at}

-- The label, its tag and the node exist, and there are as many arguments as the tag has.
pub record SendIsGiven (inst : Instances) (at_label at_tag from : ℕ) (values : List ℤ) : Type 0 where
  pub label : at_label < length inst.of
  pub tag : at_tag < length (protocol_at inst at_label).tags
  pub node : from < inst.nodes
  pub args : length values ≡ length (tag_at inst at_label at_tag).args

-- The label, a message of its soup and the node exist.
pub record ReceiveIsGiven (inst : Instances) (state : State) (at_label at_id receiver : ℕ) : Type 0 where
  pub label : at_label < length inst.of
  pub id : at_id < length (soup_at state at_label)
  pub node : receiver < inst.nodes
