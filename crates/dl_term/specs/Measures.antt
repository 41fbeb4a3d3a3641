-- What can be told of a term or a formula with no state: how large its value may be, its size, and the names that it leaves free.
use Rattle.dl_term.specs.declared.syntax.Part.{Part}
use Rattle.dl_term.specs.State.{State, field_at, soup_at}
use Rattle.dl_term.specs.Names.{Names}
use Rattle.dl_term.specs.Meaning.{part_in}
use Rattle.std.specs.Prelude.{ℕ, ℤ, ◌+◌, ◌*◌, ◌^◌, ◌<◌, ◌≤◌, length, max, unsigned_abs, Bool, false, not, ◌&&◌, ◌||◌, ◌==◌, nat_lt}
use Rattle.dl_term.specs.declared.syntax.Term.{Term, Num, Word, Var, Field', Row', Len, Msg, Add', Sub', Mul', If', more_of-Term as one, end_of-Term as end}
use Rattle.dl_term.specs.declared.syntax.Formula.{Formula, True, False, Eq, Lt, Le, Not', And', Or', Implies', All', Exists', Each', Any', more_of-Formula as one_formula, end_of-Formula as end_formula}

-- a bound of the absolute value, where stored numbers and lengths are at most 2 ^ 63
abbrev pub bound : Term → ℕ
bound (Num v) = unsigned_abs v
bound (Word sym v) = unsigned_abs v
bound (Var sym) = 2 ^ 63
bound (Field' label field _ (one node end)) = 2 ^ 63
bound (Row' label field _ (one node end) _ (one index end)) = 2 ^ 63
bound (Len label) = 2 ^ 63
bound (Msg msg part) = 2 ^ 63
bound (Add' _ (one a end) _ (one b end)) = bound a + bound b
bound (Sub' _ (one a end) _ (one b end)) = bound a + bound b
bound (Mul' _ (one a end) _ (one b end)) = bound a * bound b
bound (If' _ (one a end) _ (one b end) _ (one x end) _ (one y end)) = max (bound x) (bound y)

-- the bound of the term and of each term in it is at most 2 ^ 127 - 1
abbrev pub IsNarrow : Term → Type 0
IsNarrow (Num v) = unsigned_abs v < 2 ^ 127
IsNarrow (Word sym v) = unsigned_abs v < 2 ^ 127
IsNarrow (Var sym) = Unit {0}
IsNarrow (Field' label field _ (one node end)) = IsNarrow node
IsNarrow (Row' label field _ (one node end) _ (one index end)) = IsNarrow node × IsNarrow index
IsNarrow (Len label) = Unit {0}
IsNarrow (Msg msg part) = Unit {0}
IsNarrow (Add' _ (one a end) _ (one b end)) = IsNarrow a × IsNarrow b × (bound a + bound b < 2 ^ 127)
IsNarrow (Sub' _ (one a end) _ (one b end)) = IsNarrow a × IsNarrow b × (bound a + bound b < 2 ^ 127)
IsNarrow (Mul' _ (one a end) _ (one b end)) = IsNarrow a × IsNarrow b × (bound a * bound b < 2 ^ 127)
IsNarrow (If' _ (one a end) _ (one b end) _ (one x end) _ (one y end)) =
    IsNarrow a × IsNarrow b × IsNarrow x × IsNarrow y

abbrev pub EachIsNarrow : Formula → Type 0
EachIsNarrow True = Unit {0}
EachIsNarrow False = Unit {0}
EachIsNarrow (Eq a b) = IsNarrow a × IsNarrow b
EachIsNarrow (Lt a b) = IsNarrow a × IsNarrow b
EachIsNarrow (Le a b) = IsNarrow a × IsNarrow b
EachIsNarrow (Not' _ (one_formula f end_formula)) = EachIsNarrow f
EachIsNarrow (And' _ (one_formula f end_formula) _ (one_formula g end_formula)) = EachIsNarrow f × EachIsNarrow g
EachIsNarrow (Or' _ (one_formula f end_formula) _ (one_formula g end_formula)) = EachIsNarrow f × EachIsNarrow g
EachIsNarrow (Implies' _ (one_formula f end_formula) _ (one_formula g end_formula)) = EachIsNarrow f × EachIsNarrow g
EachIsNarrow (All' sym _ (one_formula f end_formula)) = EachIsNarrow f
EachIsNarrow (Exists' sym _ (one_formula f end_formula)) = EachIsNarrow f
EachIsNarrow (Each' msg label tag _ (one_formula f end_formula)) = EachIsNarrow f
EachIsNarrow (Any' msg label tag _ (one_formula f end_formula)) = EachIsNarrow f

-- the number of constructors
abbrev pub parts : Term → ℕ
parts (Num v) = 1
parts (Word sym v) = 1
parts (Var sym) = 1
parts (Field' label field _ (one node end)) = 1 + parts node
parts (Row' label field _ (one node end) _ (one index end)) = 1 + (parts node + parts index)
parts (Len label) = 1
parts (Msg msg part) = 1
parts (Add' _ (one a end) _ (one b end)) = 1 + (parts a + parts b)
parts (Sub' _ (one a end) _ (one b end)) = 1 + (parts a + parts b)
parts (Mul' _ (one a end) _ (one b end)) = 1 + (parts a + parts b)
parts (If' _ (one a end) _ (one b end) _ (one x end) _ (one y end)) = 1 + (parts a + (parts b + (parts x + parts y)))

abbrev pub formula_parts : Formula → ℕ
formula_parts True = 1
formula_parts False = 1
formula_parts (Eq a b) = 1 + (parts a + parts b)
formula_parts (Lt a b) = 1 + (parts a + parts b)
formula_parts (Le a b) = 1 + (parts a + parts b)
formula_parts (Not' _ (one_formula f end_formula)) = 1 + formula_parts f
formula_parts (And' _ (one_formula f end_formula) _ (one_formula g end_formula)) = 1 + (formula_parts f + formula_parts g)
formula_parts (Or' _ (one_formula f end_formula) _ (one_formula g end_formula)) = 1 + (formula_parts f + formula_parts g)
formula_parts (Implies' _ (one_formula f end_formula) _ (one_formula g end_formula)) = 1 + (formula_parts f + formula_parts g)
formula_parts (All' sym _ (one_formula f end_formula)) = 1 + formula_parts f
formula_parts (Exists' sym _ (one_formula f end_formula)) = 1 + formula_parts f
formula_parts (Each' msg label tag _ (one_formula f end_formula)) = 1 + formula_parts f
formula_parts (Any' msg label tag _ (one_formula f end_formula)) = 1 + formula_parts f

-- how deep the constructors nest
abbrev pub nesting : Term → ℕ
nesting (Num v) = 1
nesting (Word sym v) = 1
nesting (Var sym) = 1
nesting (Field' label field _ (one node end)) = 1 + nesting node
nesting (Row' label field _ (one node end) _ (one index end)) = 1 + max (nesting node) (nesting index)
nesting (Len label) = 1
nesting (Msg msg part) = 1
nesting (Add' _ (one a end) _ (one b end)) = 1 + max (nesting a) (nesting b)
nesting (Sub' _ (one a end) _ (one b end)) = 1 + max (nesting a) (nesting b)
nesting (Mul' _ (one a end) _ (one b end)) = 1 + max (nesting a) (nesting b)
nesting (If' _ (one a end) _ (one b end) _ (one x end) _ (one y end)) = 1 + max (max (nesting a) (nesting b)) (max (nesting x) (nesting y))

abbrev pub formula_nesting : Formula → ℕ
formula_nesting True = 1
formula_nesting False = 1
formula_nesting (Eq a b) = 1 + max (nesting a) (nesting b)
formula_nesting (Lt a b) = 1 + max (nesting a) (nesting b)
formula_nesting (Le a b) = 1 + max (nesting a) (nesting b)
formula_nesting (Not' _ (one_formula f end_formula)) = 1 + formula_nesting f
formula_nesting (And' _ (one_formula f end_formula) _ (one_formula g end_formula)) = 1 + max (formula_nesting f) (formula_nesting g)
formula_nesting (Or' _ (one_formula f end_formula) _ (one_formula g end_formula)) = 1 + max (formula_nesting f) (formula_nesting g)
formula_nesting (Implies' _ (one_formula f end_formula) _ (one_formula g end_formula)) = 1 + max (formula_nesting f) (formula_nesting g)
formula_nesting (All' sym _ (one_formula f end_formula)) = 1 + formula_nesting f
formula_nesting (Exists' sym _ (one_formula f end_formula)) = 1 + formula_nesting f
formula_nesting (Each' msg label tag _ (one_formula f end_formula)) = 1 + formula_nesting f
formula_nesting (Any' msg label tag _ (one_formula f end_formula)) = 1 + formula_nesting f

-- more than 1,000,000 parts; a formula that nests more than 4,000 deep counts as one that has more
abbrev pub is_oversized : Formula → Bool
is_oversized formula = nat_lt 1000000 (formula_parts formula) || nat_lt 4000 (formula_nesting formula)

-- a variable, or a message, of this name stands in the term
abbrev pub has_variable : Term → ℕ → Bool
has_variable (Num v) name = false
has_variable (Word sym v) name = false
has_variable (Var sym) name = sym == name
has_variable (Field' label field _ (one node end)) name = has_variable node name
has_variable (Row' label field _ (one node end) _ (one index end)) name = has_variable node name || has_variable index name
has_variable (Len label) name = false
has_variable (Msg msg part) name = false
has_variable (Add' _ (one a end) _ (one b end)) name = has_variable a name || has_variable b name
has_variable (Sub' _ (one a end) _ (one b end)) name = has_variable a name || has_variable b name
has_variable (Mul' _ (one a end) _ (one b end)) name = has_variable a name || has_variable b name
has_variable (If' _ (one a end) _ (one b end) _ (one x end) _ (one y end)) name =
    (has_variable a name || has_variable b name) || (has_variable x name || has_variable y name)

abbrev pub has_message : Term → ℕ → Bool
has_message (Num v) name = false
has_message (Word sym v) name = false
has_message (Var sym) name = false
has_message (Field' label field _ (one node end)) name = has_message node name
has_message (Row' label field _ (one node end) _ (one index end)) name = has_message node name || has_message index name
has_message (Len label) name = false
has_message (Msg msg part) name = msg == name
has_message (Add' _ (one a end) _ (one b end)) name = has_message a name || has_message b name
has_message (Sub' _ (one a end) _ (one b end)) name = has_message a name || has_message b name
has_message (Mul' _ (one a end) _ (one b end)) name = has_message a name || has_message b name
has_message (If' _ (one a end) _ (one b end) _ (one x end) _ (one y end)) name =
    (has_message a name || has_message b name) || (has_message x name || has_message y name)

-- the variable, or the message, stands in the formula outside the quantifiers that bind it
abbrev pub is_free_variable : Formula → ℕ → Bool
is_free_variable True name = false
is_free_variable False name = false
is_free_variable (Eq a b) name = has_variable a name || has_variable b name
is_free_variable (Lt a b) name = has_variable a name || has_variable b name
is_free_variable (Le a b) name = has_variable a name || has_variable b name
is_free_variable (Not' _ (one_formula f end_formula)) name = is_free_variable f name
is_free_variable (And' _ (one_formula f end_formula) _ (one_formula g end_formula)) name = is_free_variable f name || is_free_variable g name
is_free_variable (Or' _ (one_formula f end_formula) _ (one_formula g end_formula)) name = is_free_variable f name || is_free_variable g name
is_free_variable (Implies' _ (one_formula f end_formula) _ (one_formula g end_formula)) name = is_free_variable f name || is_free_variable g name
is_free_variable (All' sym _ (one_formula f end_formula)) name = not (sym == name) && is_free_variable f name
is_free_variable (Exists' sym _ (one_formula f end_formula)) name = not (sym == name) && is_free_variable f name
is_free_variable (Each' msg label tag _ (one_formula f end_formula)) name = is_free_variable f name
is_free_variable (Any' msg label tag _ (one_formula f end_formula)) name = is_free_variable f name

abbrev pub is_free_message : Formula → ℕ → Bool
is_free_message True name = false
is_free_message False name = false
is_free_message (Eq a b) name = has_message a name || has_message b name
is_free_message (Lt a b) name = has_message a name || has_message b name
is_free_message (Le a b) name = has_message a name || has_message b name
is_free_message (Not' _ (one_formula f end_formula)) name = is_free_message f name
is_free_message (And' _ (one_formula f end_formula) _ (one_formula g end_formula)) name = is_free_message f name || is_free_message g name
is_free_message (Or' _ (one_formula f end_formula) _ (one_formula g end_formula)) name = is_free_message f name || is_free_message g name
is_free_message (Implies' _ (one_formula f end_formula) _ (one_formula g end_formula)) name = is_free_message f name || is_free_message g name
is_free_message (All' sym _ (one_formula f end_formula)) name = is_free_message f name
is_free_message (Exists' sym _ (one_formula f end_formula)) name = is_free_message f name
is_free_message (Each' msg label tag _ (one_formula f end_formula)) name = not (msg == name) && is_free_message f name
is_free_message (Any' msg label tag _ (one_formula f end_formula)) name = not (msg == name) && is_free_message f name

abbrev pub is_free : Formula → ℕ → Bool
is_free formula name = is_free_variable formula name || is_free_message formula name

-- what can be read is at most 2 ^ 63: variables, message parts, stored numbers and lengths
pub record ReadsAreSmall (names : Names) (state : State) : Type 0 where
  pub variables : (x : ℕ) → unsigned_abs (names.number x) ≤ 2 ^ 63
  pub parts : (m : ℕ) (part : Part) → unsigned_abs (part_in state (names.message m) part) ≤ 2 ^ 63
  pub fields : (label field : ℕ) (node index : ℤ) → unsigned_abs (field_at state label field node index) ≤ 2 ^ 63
  pub lengths : (label : ℕ) → length (soup_at state label) ≤ 2 ^ 63
