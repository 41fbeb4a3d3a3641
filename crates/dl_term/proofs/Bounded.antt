-- A term's value is within its bound.
use Rattle.std.proofs.Common.{◌≤◌, ◌+◌, ◌*◌, ℕ, ℤ, pos, ◌+ℤ◌, ◌-ℤ◌, ◌*ℤ◌, Bool, true, false, if◌then◌else◌, max, unsigned_abs, arith}
use Rattle.std.proofs.Math.Nat.{mul-le-mul}
use Rattle.std.proofs.lemmas.Int.{ints, unsigned_abs-mul}
use Rattle.std.specs.Ordering.{int_eq}
use Rattle.dl_term.specs.declared.syntax.Term.{Term, Num, Word, Var, Field', Row', Len, Msg, Add', Sub', Mul', If', more_of-Term as one, end_of-Term as end}
use Rattle.dl_term.specs.State.{State}
use Rattle.dl_term.specs.Names.{Names, label_of}
use Rattle.dl_term.specs.Meaning.{value}
use Rattle.dl_term.specs.Measures.{bound, ReadsAreSmall}

abs-add : (a b : ℤ) (m n : ℕ) → unsigned_abs a ≤ m → unsigned_abs b ≤ n → unsigned_abs (a +ℤ b) ≤ m + n
abs-add a b m n p q = omega (arith, ints)

abs-sub : (a b : ℤ) (m n : ℕ) → unsigned_abs a ≤ m → unsigned_abs b ≤ n → unsigned_abs (a -ℤ b) ≤ m + n
abs-sub a b m n p q = omega (arith, ints)

abs-mul : (a b : ℤ) (m n : ℕ) → unsigned_abs a ≤ m → unsigned_abs b ≤ n → unsigned_abs (a *ℤ b) ≤ m * n
abs-mul a b m n p q = rw unsigned_abs-mul (mul-le-mul p q)

abs-if : (test : Bool) (a b : ℤ) (m n : ℕ) → unsigned_abs a ≤ m → unsigned_abs b ≤ n → unsigned_abs (if test then a else b) ≤ max m n
abs-if true a b m n p q = omega arith
abs-if false a b m n p q = omega arith

pub value-bounded : (t : Term) (names : Names) (state : State) → ReadsAreSmall names state → unsigned_abs (value t names state) ≤ bound t
value-bounded (Num v) names state h = omega arith
value-bounded (Word sym v) names state h = omega arith
value-bounded (Var sym) names state h = h.variables sym
value-bounded (Field' label field _ (one node end)) names state h = h.fields (label_of names.own label) field (value node names state) (pos 0)
value-bounded (Row' label field _ (one node end) _ (one index end)) names state h = h.fields (label_of names.own label) field (value node names state) (value index names state)
value-bounded (Len label) names state h = h.lengths (label_of names.own label)
value-bounded (Msg msg part) names state h = h.parts msg part
value-bounded (Add' _ (one a end) _ (one b end)) names state h = abs-add (value a names state) (value b names state) _ _ (value-bounded a names state h) (value-bounded b names state h)
value-bounded (Sub' _ (one a end) _ (one b end)) names state h = abs-sub (value a names state) (value b names state) _ _ (value-bounded a names state h) (value-bounded b names state h)
value-bounded (Mul' _ (one a end) _ (one b end)) names state h = abs-mul (value a names state) (value b names state) _ _ (value-bounded a names state h) (value-bounded b names state h)
value-bounded (If' _ (one a end) _ (one b end) _ (one x end) _ (one y end)) names state h =
    abs-if (int_eq (value a names state) (value b names state)) (value x names state) (value y names state) _ _ (value-bounded x names state h) (value-bounded y names state h)
