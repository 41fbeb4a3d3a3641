-- The body of a quantifier over messages is a part of what says before a step what the quantifier says after it.
use Rattle.std.proofs.Common.{◌≡◌, ◌<◌, ◌≤◌, ◌+◌, ℕ, Bool, true, false, arith}
use Rattle.dl_term.specs.declared.syntax.Lab.{Lab}
use Rattle.dl_term.specs.declared.syntax.Formula.{Formula}
use Rattle.dl_term.specs.Syntax.{opened}
use Rattle.dl_term.specs.Measures.{formula_parts}
use Rattle.dl_wp.specs.Steps.{Move, Sends, Receives}
use Rattle.dl_wp.specs.Before.{each_before, any_before}

pub each_grows : (move : Move) (over : Bool) (m : ℕ) (label : Lab) (tag : ℕ) (f : Formula) → formula_parts f ≤ formula_parts (each_before move over m label tag f)
unfolding opened
each_grows (Sends new) true m label tag f = omega arith
each_grows (Sends new) false m label tag f = omega arith
each_grows (Receives k) over m label tag f = omega arith

pub any_grows : (move : Move) (over : Bool) (m : ℕ) (label : Lab) (tag : ℕ) (f : Formula) → formula_parts f ≤ formula_parts (any_before move over m label tag f)
unfolding opened
any_grows (Sends new) true m label tag f = omega arith
any_grows (Sends new) false m label tag f = omega arith
any_grows (Receives k) over m label tag f = omega arith

-- what has no room for a part has none for the whole
pub no_room : (room part whole : ℕ) → part ≤ whole → room < part → room < whole
no_room room part whole grows lacks = omega arith
