-- A choice by whether two terms are equal, which is told at once where they are the same or are constants.
use Rattle.std.specs.Prelude.{ℤ, Bool, false, not, if◌then◌else◌, Option, Some, None}
use Rattle.std.specs.Ordering.{int_eq}
use Rattle.dl_term.specs.declared.syntax.Term.{Term, Num, Word, If}
use Rattle.dl_term.specs.Same.{same_term}

-- the value of a number, a node or an enumerator
abbrev pub constant : Term → Option ℤ
constant (Num v) = Some v
constant (Word sym v) = Some v
constant _ = None

-- two constants of different values
abbrev pub differ : Option ℤ → Option ℤ → Bool
differ (Some v) (Some w) = not (int_eq v w)
differ _ _ = false

-- x where a equals b, and y otherwise
abbrev pub pick : (a b x y : Term) → Term
pick a b x y = if same_term a b then x else if differ (constant a) (constant b) then y else If a b x y
