-- What contracts see of a state that a program keeps.
use Rattle.std.specs.Prelude.{ℕ}
use Rattle.dl_term.specs.State.{State}

-- a state, and how many more messages each soup has room for
pub record Known : Type 0 where
  pub state : State
  pub spare : ℕ
