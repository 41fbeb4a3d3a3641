-- What contracts see of a soup.
use Rattle.std.specs.Prelude.{ℕ, List}
use Rattle.dl_term.specs.State.{State}
use Rattle.dl_model.specs.declared.history.Entry.{Entry}
use Rattle.dl_model.specs.declared.history.Order.{Order}
use Rattle.dl_model.specs.declared.protocol.Instances.{Instances}
use Rattle.dl_state.specs.declared.shape.Shape.{Shape}

-- The instances, the shape of the first state, the order of delivery, the state and the history that led to it, and how
-- many more entries there is room for.
pub record Seen : Type 0 where
  pub inst : Instances
  pub shape : Shape
  pub order : Order
  pub state : State
  pub history : List Entry
  pub spare : ℕ
