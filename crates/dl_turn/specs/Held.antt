-- What a clause reads of a `Held`.
use Rattle.dl_turn.specs.declared.lock.Held.{Held}

module _ {T : Type 0} where
  -- the value that is held
  abbrev pub value_in : Held T → T
  value_in held = held.value

  -- the same, with another value
  abbrev pub with_value : Held T → T → Held T
  with_value held value = record held { value = value }
