-- The formula that says in any state what a formula says of the first state.
use Rattle.std.specs.Prelude.{ℕ, zero, suc, pos, Bool, true, false, if◌then◌else◌, Option, Some, None, List, [], slice_get}
use Rattle.dl_term.specs.declared.syntax.Lab.{Lab}
use Rattle.dl_term.specs.declared.syntax.Lab.TheVariants.{Own}
use Rattle.dl_term.specs.declared.syntax.Term.{Term, Num, Word, Var, Field', Row', Len, Msg, Add, Add', Sub, Sub', Mul, Mul', If, If', more_of-Term as one, end_of-Term as end}
use Rattle.dl_term.specs.declared.syntax.Formula.{Formula, True, False, Eq, Lt, Le, Not, Not', And, And', Or, Or', Implies, Implies', All, All', Exists, Exists', Each', Any', more_of-Formula as one_formula, end_of-Formula as end_formula}
use Rattle.dl_model.specs.declared.protocol.FieldDecl.{FieldDecl}
use Rattle.dl_model.specs.declared.protocol.Protocol.{Protocol}
use Rattle.dl_model.specs.declared.protocol.Instances.{Instances}
use Rattle.dl_model.specs.Sorts.{is_node}
use Rattle.dl_model.specs.Words.{me_word}
use Rattle.dl_subst.specs.Change.{changed_term}
use Rattle.dl_wp.specs.Steps.{as_seen, names_in_step, spoken_of}

abbrev pub first_in : Option FieldDecl → Term
first_in (Some field) = field.first
first_in None = Num (pos 0)

-- the declared first value of a field
abbrev pub first_of : Option Protocol → ℕ → Term
first_of (Some protocol) field = first_in (slice_get protocol.fields field)
first_of None field = Num (pos 0)

-- the first value at a node, which stands for `me`
abbrev pub first_at : Term → Term → Term
first_at first node = changed_term (as_seen Own (names_in_step node me_word node [] [])) first

-- constants of the node list, and variables, which quantifiers over nodes bind
abbrev pub is_node_term : ℕ → Term → Bool
is_node_term nodes (Num v) = is_node nodes v
is_node_term nodes (Word sym v) = is_node nodes v
is_node_term nodes (Var sym) = true
is_node_term nodes _ = false

-- what stands for the node that the term is, among `count` nodes from `n` on, and 0 where it is none of them
abbrev pub chain : Term → (ℕ → Term) → ℕ → (count : ℕ) → Term
chain t at n zero = Num (pos 0)
chain t at n (suc count) = If t (Num (pos n)) (at n) (chain t at (suc n) count)

abbrev pub at_node : ℕ → Term → (Term → Term) → Term
at_node nodes t at = if is_node_term nodes t then at t else chain t (λ n. at (Num (pos n))) 0 nodes

-- a field's first value at a node, or a row's at a node and an index, where it is the same at each index that is a node
abbrev pub value_first : ℕ → Term → (index : Option Term) → (node : Term) → Term
value_first nodes first None node = first_at first node
value_first nodes first (Some index) node = at_node nodes index (λ i. first_at first node)

abbrev pub read_first : ℕ → Term → (index : Option Term) → (node : Term) → Term
read_first nodes first index node = at_node nodes node (value_first nodes first index)

abbrev pub term_first : Instances → Option ℕ → Term → Term
term_first inst own (Num v) = Num v
term_first inst own (Word sym v) = Word sym v
term_first inst own (Var sym) = Var sym
term_first inst own (Field' label field _ (one node end)) =
    read_first inst.nodes (first_of (spoken_of inst own label) field) None (term_first inst own node)
term_first inst own (Row' label field _ (one node end) _ (one index end)) =
    read_first inst.nodes (first_of (spoken_of inst own label) field) (Some (term_first inst own index)) (term_first inst own node)
term_first inst own (Len label) = Num (pos 0)
term_first inst own (Msg m part) = Msg m part
term_first inst own (Add' _ (one a end) _ (one b end)) = Add (term_first inst own a) (term_first inst own b)
term_first inst own (Sub' _ (one a end) _ (one b end)) = Sub (term_first inst own a) (term_first inst own b)
term_first inst own (Mul' _ (one a end) _ (one b end)) = Mul (term_first inst own a) (term_first inst own b)
term_first inst own (If' _ (one a end) _ (one b end) _ (one x end) _ (one y end)) =
    If (term_first inst own a) (term_first inst own b) (term_first inst own x) (term_first inst own y)

-- No message is in a soup at first.
abbrev pub at_first : Instances → Option ℕ → Formula → Formula
at_first inst own True = True
at_first inst own False = False
at_first inst own (Eq a b) = Eq (term_first inst own a) (term_first inst own b)
at_first inst own (Lt a b) = Lt (term_first inst own a) (term_first inst own b)
at_first inst own (Le a b) = Le (term_first inst own a) (term_first inst own b)
at_first inst own (Not' _ (one_formula f end_formula)) = Not (at_first inst own f)
at_first inst own (And' _ (one_formula f end_formula) _ (one_formula g end_formula)) = And (at_first inst own f) (at_first inst own g)
at_first inst own (Or' _ (one_formula f end_formula) _ (one_formula g end_formula)) = Or (at_first inst own f) (at_first inst own g)
at_first inst own (Implies' _ (one_formula f end_formula) _ (one_formula g end_formula)) = Implies (at_first inst own f) (at_first inst own g)
at_first inst own (All' x _ (one_formula f end_formula)) = All x (at_first inst own f)
at_first inst own (Exists' x _ (one_formula f end_formula)) = Exists x (at_first inst own f)
at_first inst own (Each' m label tag _ (one_formula f end_formula)) = True
at_first inst own (Any' m label tag _ (one_formula f end_formula)) = False
