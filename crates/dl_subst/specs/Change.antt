-- A change of the terms in a formula: what is put in the place of a term, and below which quantifiers nothing is changed.
use Rattle.std.specs.Prelude.{ℕ, Bool, false, not, ◌&&◌, ◌||◌, ◌==◌, Option, Some, None, unwrap_or, if◌then◌else◌}
use Rattle.dl_term.specs.declared.syntax.Lab.{Lab}
use Rattle.dl_term.specs.declared.syntax.Term.{Term, Num, Word, Var, Field, Field', Row, Row', Len, Msg, Add, Add', Sub, Sub', Mul, Mul', If, If', more_of-Term as one, end_of-Term as end}
use Rattle.dl_term.specs.declared.syntax.Formula.{Formula, True, False, Eq, Lt, Le, Not, Not', And, And', Or, Or', Implies, Implies', All, All', Exists, Exists', Each, Each', Any, Any', more_of-Formula as one_formula, end_of-Formula as end_formula}

-- `put` gives the new term of a place, or None for a term that is kept and gone into
pub record Change : Type 0 where
  pub put : Term → Option Term
  pub label : Lab → Lab
  pub stops_at_variable : ℕ → Bool
  pub stops_at_message : ℕ → Bool

-- a term that is kept, with its parts changed
abbrev pub inside : Change → Term → Term
inside c (Num v) = Num v
inside c (Word sym v) = Word sym v
inside c (Var sym) = Var sym
inside c (Field' label field _ (one node end)) = Field (c.label label) field (unwrap_or (c.put node) (inside c node))
inside c (Row' label field _ (one node end) _ (one index end)) =
    Row (c.label label) field (unwrap_or (c.put node) (inside c node)) (unwrap_or (c.put index) (inside c index))
inside c (Len label) = Len (c.label label)
inside c (Msg msg part) = Msg msg part
inside c (Add' _ (one a end) _ (one b end)) = Add (unwrap_or (c.put a) (inside c a)) (unwrap_or (c.put b) (inside c b))
inside c (Sub' _ (one a end) _ (one b end)) = Sub (unwrap_or (c.put a) (inside c a)) (unwrap_or (c.put b) (inside c b))
inside c (Mul' _ (one a end) _ (one b end)) = Mul (unwrap_or (c.put a) (inside c a)) (unwrap_or (c.put b) (inside c b))
inside c (If' _ (one a end) _ (one b end) _ (one x end) _ (one y end)) =
    If (unwrap_or (c.put a) (inside c a)) (unwrap_or (c.put b) (inside c b)) (unwrap_or (c.put x) (inside c x)) (unwrap_or (c.put y) (inside c y))

-- a term changed: its outermost places have their new terms
abbrev pub changed_term : Change → Term → Term
changed_term c t = unwrap_or (c.put t) (inside c t)

abbrev pub changed : Change → Formula → Formula
changed c True = True
changed c False = False
changed c (Eq a b) = Eq (changed_term c a) (changed_term c b)
changed c (Lt a b) = Lt (changed_term c a) (changed_term c b)
changed c (Le a b) = Le (changed_term c a) (changed_term c b)
changed c (Not' _ (one_formula f end_formula)) = Not (changed c f)
changed c (And' _ (one_formula f end_formula) _ (one_formula g end_formula)) = And (changed c f) (changed c g)
changed c (Or' _ (one_formula f end_formula) _ (one_formula g end_formula)) = Or (changed c f) (changed c g)
changed c (Implies' _ (one_formula f end_formula) _ (one_formula g end_formula)) = Implies (changed c f) (changed c g)
changed c (All' x _ (one_formula f end_formula)) = All x (if c.stops_at_variable x then f else changed c f)
changed c (Exists' x _ (one_formula f end_formula)) = Exists x (if c.stops_at_variable x then f else changed c f)
changed c (Each' m label tag _ (one_formula f end_formula)) = Each m (c.label label) tag (if c.stops_at_message m then f else changed c f)
changed c (Any' m label tag _ (one_formula f end_formula)) = Any m (c.label label) tag (if c.stops_at_message m then f else changed c f)

-- one of these variables or messages stands in the term
abbrev pub mentions : (variable message : ℕ → Bool) → Term → Bool
mentions variable message (Num v) = false
mentions variable message (Word sym v) = false
mentions variable message (Var sym) = variable sym
mentions variable message (Field' label field _ (one node end)) = mentions variable message node
mentions variable message (Row' label field _ (one node end) _ (one index end)) = mentions variable message node || mentions variable message index
mentions variable message (Len label) = false
mentions variable message (Msg msg part) = message msg
mentions variable message (Add' _ (one a end) _ (one b end)) = mentions variable message a || mentions variable message b
mentions variable message (Sub' _ (one a end) _ (one b end)) = mentions variable message a || mentions variable message b
mentions variable message (Mul' _ (one a end) _ (one b end)) = mentions variable message a || mentions variable message b
mentions variable message (If' _ (one a end) _ (one b end) _ (one x end) _ (one y end)) =
    (mentions variable message a || mentions variable message b) || (mentions variable message x || mentions variable message y)

-- whether the new term of a place has one of these names, or else the places inside the term
abbrev pub at_place : (variable message : ℕ → Bool) → Option Term → Bool → Bool
at_place variable message (Some new) within = mentions variable message new
at_place variable message None within = within

abbrev pub captures_inside : Change → (variable message : ℕ → Bool) → Term → Bool
captures_inside c variable message (Num v) = false
captures_inside c variable message (Word sym v) = false
captures_inside c variable message (Var sym) = false
captures_inside c variable message (Field' label field _ (one node end)) =
    at_place variable message (c.put node) (captures_inside c variable message node)
captures_inside c variable message (Row' label field _ (one node end) _ (one index end)) =
    at_place variable message (c.put node) (captures_inside c variable message node)
    || at_place variable message (c.put index) (captures_inside c variable message index)
captures_inside c variable message (Len label) = false
captures_inside c variable message (Msg msg part) = false
captures_inside c variable message (Add' _ (one a end) _ (one b end)) =
    at_place variable message (c.put a) (captures_inside c variable message a)
    || at_place variable message (c.put b) (captures_inside c variable message b)
captures_inside c variable message (Sub' _ (one a end) _ (one b end)) =
    at_place variable message (c.put a) (captures_inside c variable message a)
    || at_place variable message (c.put b) (captures_inside c variable message b)
captures_inside c variable message (Mul' _ (one a end) _ (one b end)) =
    at_place variable message (c.put a) (captures_inside c variable message a)
    || at_place variable message (c.put b) (captures_inside c variable message b)
captures_inside c variable message (If' _ (one a end) _ (one b end) _ (one x end) _ (one y end)) =
    (at_place variable message (c.put a) (captures_inside c variable message a)
    || at_place variable message (c.put b) (captures_inside c variable message b))
    || (at_place variable message (c.put x) (captures_inside c variable message x)
    || at_place variable message (c.put y) (captures_inside c variable message y))

-- the new term of a place in the term has one of these names
abbrev pub term_captures : Change → (variable message : ℕ → Bool) → Term → Bool
term_captures c variable message t = at_place variable message (c.put t) (captures_inside c variable message t)

-- this name, or one of those
abbrev pub and_name : ℕ → (ℕ → Bool) → ℕ → Bool
and_name x names y = (y == x) || names y

-- The new term of a place in the formula has a name that is bound around that place. Bound around the formula are these
-- variables and messages.
abbrev pub captures_under : Change → (variable message : ℕ → Bool) → Formula → Bool
captures_under c variable message True = false
captures_under c variable message False = false
captures_under c variable message (Eq a b) = term_captures c variable message a || term_captures c variable message b
captures_under c variable message (Lt a b) = term_captures c variable message a || term_captures c variable message b
captures_under c variable message (Le a b) = term_captures c variable message a || term_captures c variable message b
captures_under c variable message (Not' _ (one_formula f end_formula)) = captures_under c variable message f
captures_under c variable message (And' _ (one_formula f end_formula) _ (one_formula g end_formula)) =
    captures_under c variable message f || captures_under c variable message g
captures_under c variable message (Or' _ (one_formula f end_formula) _ (one_formula g end_formula)) =
    captures_under c variable message f || captures_under c variable message g
captures_under c variable message (Implies' _ (one_formula f end_formula) _ (one_formula g end_formula)) =
    captures_under c variable message f || captures_under c variable message g
captures_under c variable message (All' x _ (one_formula f end_formula)) =
    not (c.stops_at_variable x) && captures_under c (and_name x variable) message f
captures_under c variable message (Exists' x _ (one_formula f end_formula)) =
    not (c.stops_at_variable x) && captures_under c (and_name x variable) message f
captures_under c variable message (Each' m label tag _ (one_formula f end_formula)) =
    not (c.stops_at_message m) && captures_under c variable (and_name m message) f
captures_under c variable message (Any' m label tag _ (one_formula f end_formula)) =
    not (c.stops_at_message m) && captures_under c variable (and_name m message) f

-- a name of a new term is bound around its place
abbrev pub captures : Change → Formula → Bool
captures c f = captures_under c (λ x. false) (λ m. false) f
