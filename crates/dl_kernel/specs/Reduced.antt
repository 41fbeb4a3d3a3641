-- A formula where an `if` is decided.
use Rattle.std.specs.Prelude.{ℕ, Bool, ◌&&◌, ◌||◌, if◌then◌else◌}
use Rattle.dl_term.specs.declared.syntax.Term.{Term, Num, Word, Var, Field, Field', Row, Row', Len, Msg, Add, Add', Sub, Sub', Mul, Mul', If, If', more_of-Term as one, end_of-Term as end}
use Rattle.dl_term.specs.declared.syntax.Formula.{Formula, True, False, Eq, Lt, Le, Not, Not', And, And', Or, Or', Implies, Implies', All, All', Exists, Exists', Each, Each', Any, Any', more_of-Formula as one_formula, end_of-Formula as end_formula}
use Rattle.dl_term.specs.Measures.{has_variable, has_message}
use Rattle.dl_term.specs.Same.{same_term}

-- one of two terms sees the variable, or the message
abbrev pub see_variable : Term → Term → ℕ → Bool
see_variable a b x = has_variable a x || has_variable b x

abbrev pub see_message : Term → Term → ℕ → Bool
see_message a b m = has_message a m || has_message b m

-- the two terms are these, in one order or the other
abbrev pub are_these : Term → Term → Term → Term → Bool
are_these p q a b = (same_term p a && same_term q b) || (same_term p b && same_term q a)

-- t where each `if` that tests a and b is decided
abbrev pub reduced_in : Term → Term → Term → Bool → Term
reduced_in (Num v) a b equal = Num v
reduced_in (Word sym v) a b equal = Word sym v
reduced_in (Var x) a b equal = Var x
reduced_in (Field' label field _ (one node end)) a b equal = Field label field (reduced_in node a b equal)
reduced_in (Row' label field _ (one node end) _ (one index end)) a b equal = Row label field (reduced_in node a b equal) (reduced_in index a b equal)
reduced_in (Len label) a b equal = Len label
reduced_in (Msg m part) a b equal = Msg m part
reduced_in (Add' _ (one p end) _ (one q end)) a b equal = Add (reduced_in p a b equal) (reduced_in q a b equal)
reduced_in (Sub' _ (one p end) _ (one q end)) a b equal = Sub (reduced_in p a b equal) (reduced_in q a b equal)
reduced_in (Mul' _ (one p end) _ (one q end)) a b equal = Mul (reduced_in p a b equal) (reduced_in q a b equal)
reduced_in (If' _ (one p end) _ (one q end) _ (one x end) _ (one y end)) a b equal =
    if are_these p q a b then (if equal then reduced_in x a b equal else reduced_in y a b equal)
    else If (reduced_in p a b equal) (reduced_in q a b equal) (reduced_in x a b equal) (reduced_in y a b equal)

abbrev pub reduced : Formula → Term → Term → Bool → Formula
reduced True a b equal = True
reduced False a b equal = False
reduced (Eq p q) a b equal = Eq (reduced_in p a b equal) (reduced_in q a b equal)
reduced (Lt p q) a b equal = Lt (reduced_in p a b equal) (reduced_in q a b equal)
reduced (Le p q) a b equal = Le (reduced_in p a b equal) (reduced_in q a b equal)
reduced (Not' _ (one_formula f end_formula)) a b equal = Not (reduced f a b equal)
reduced (And' _ (one_formula f end_formula) _ (one_formula g end_formula)) a b equal = And (reduced f a b equal) (reduced g a b equal)
reduced (Or' _ (one_formula f end_formula) _ (one_formula g end_formula)) a b equal = Or (reduced f a b equal) (reduced g a b equal)
reduced (Implies' _ (one_formula f end_formula) _ (one_formula g end_formula)) a b equal = Implies (reduced f a b equal) (reduced g a b equal)
reduced (All' x _ (one_formula f end_formula)) a b equal = All x (if see_variable a b x then f else reduced f a b equal)
reduced (Exists' x _ (one_formula f end_formula)) a b equal = Exists x (if see_variable a b x then f else reduced f a b equal)
reduced (Each' m label tag _ (one_formula f end_formula)) a b equal = Each m label tag (if see_message a b m then f else reduced f a b equal)
reduced (Any' m label tag _ (one_formula f end_formula)) a b equal = Any m label tag (if see_message a b m then f else reduced f a b equal)
