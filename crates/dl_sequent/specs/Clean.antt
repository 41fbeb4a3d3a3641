-- Clean sequents: every name in scope is told apart from the others.
use Rattle.std.specs.Prelude.{◌≡◌, ℕ, Bool, true, not, ◌&&◌, ◌||◌, List, [], ◌∷◌, ◌++◌, map}
use Rattle.std.specs.List.{list_all, list_any}
use Rattle.dl_term.specs.declared.syntax.Term.{Term, Num, Word, Var, Field', Row', Len, Msg, Add', Sub', Mul', If', more_of-Term as one, end_of-Term as end}
use Rattle.dl_term.specs.declared.syntax.Formula.{Formula, True, False, Eq, Lt, Le, Not', And', Or', Implies', All', Exists', Each', Any', more_of-Formula as one_formula, end_of-Formula as end_formula}
use Rattle.dl_term.specs.Measures.{is_free}
use Rattle.dl_model.specs.declared.sequent.Hypothesis.{Hypothesis}
use Rattle.dl_model.specs.declared.sequent.Sequent.{Sequent}
use Rattle.dl_model.specs.Sorts.{has}
use Rattle.dl_model.specs.Spoken.{bound_names}

-- no name stands twice
abbrev pub are_distinct : List ℕ → Bool
are_distinct [] = true
are_distinct (name ∷ names) = not (has names name) && are_distinct names

-- each variable and message in the term is one of these
abbrev pub knows : List ℕ → List ℕ → Term → Bool
knows vars messages (Num v) = true
knows vars messages (Word sym v) = true
knows vars messages (Var sym) = has vars sym
knows vars messages (Field' label field _ (one node end)) = knows vars messages node
knows vars messages (Row' label field _ (one node end) _ (one index end)) = knows vars messages node && knows vars messages index
knows vars messages (Len label) = true
knows vars messages (Msg msg part) = has messages msg
knows vars messages (Add' _ (one a end) _ (one b end)) = knows vars messages a && knows vars messages b
knows vars messages (Sub' _ (one a end) _ (one b end)) = knows vars messages a && knows vars messages b
knows vars messages (Mul' _ (one a end) _ (one b end)) = knows vars messages a && knows vars messages b
knows vars messages (If' _ (one a end) _ (one b end) _ (one x end) _ (one y end)) =
    (knows vars messages a && knows vars messages b) && (knows vars messages x && knows vars messages y)

-- neither a variable nor a message has the name
abbrev pub is_unknown : List ℕ → List ℕ → ℕ → Bool
is_unknown vars messages name = not (has vars name) && not (has messages name)

-- Each free name is a known variable or message, and each quantifier binds a name that is not known around it.
-- So no known name is bound, and no quantifier stands in the scope of another one of its name.
abbrev pub is_told_apart : List ℕ → List ℕ → Formula → Bool
is_told_apart vars messages True = true
is_told_apart vars messages False = true
is_told_apart vars messages (Eq a b) = knows vars messages a && knows vars messages b
is_told_apart vars messages (Lt a b) = knows vars messages a && knows vars messages b
is_told_apart vars messages (Le a b) = knows vars messages a && knows vars messages b
is_told_apart vars messages (Not' _ (one_formula f end_formula)) = is_told_apart vars messages f
is_told_apart vars messages (And' _ (one_formula f end_formula) _ (one_formula g end_formula)) = is_told_apart vars messages f && is_told_apart vars messages g
is_told_apart vars messages (Or' _ (one_formula f end_formula) _ (one_formula g end_formula)) = is_told_apart vars messages f && is_told_apart vars messages g
is_told_apart vars messages (Implies' _ (one_formula f end_formula) _ (one_formula g end_formula)) = is_told_apart vars messages f && is_told_apart vars messages g
is_told_apart vars messages (All' sym _ (one_formula f end_formula)) = is_unknown vars messages sym && is_told_apart (sym ∷ vars) messages f
is_told_apart vars messages (Exists' sym _ (one_formula f end_formula)) = is_unknown vars messages sym && is_told_apart (sym ∷ vars) messages f
is_told_apart vars messages (Each' msg label tag _ (one_formula f end_formula)) = is_unknown vars messages msg && is_told_apart vars (msg ∷ messages) f
is_told_apart vars messages (Any' msg label tag _ (one_formula f end_formula)) = is_unknown vars messages msg && is_told_apart vars (msg ∷ messages) f

abbrev pub var_names : Sequent → List ℕ
var_names s = map (λ v. v.0) s.vars

abbrev pub message_names : Sequent → List ℕ
message_names s = map (λ m. m.0) s.messages

abbrev pub fact_names : Sequent → List ℕ
fact_names s = map (λ (h : Hypothesis). h.name) s.facts

-- Variables and messages have distinct names, hypotheses have distinct names, and each formula tells its names apart.
abbrev pub is_clean : Sequent → Bool
is_clean s =
    (are_distinct (var_names s ++ message_names s) && are_distinct (fact_names s))
    && (list_all (λ (h : Hypothesis). is_told_apart (var_names s) (message_names s) h.formula) s.facts
    && is_told_apart (var_names s) (message_names s) s.goal)

abbrev pub IsClean : Sequent → Type 0
IsClean s = is_clean s ≡ true

-- the name stands in the formula, free or bound
abbrev pub mentions : Formula → ℕ → Bool
mentions f name = is_free f name || has (bound_names f) name

-- the name stands nowhere in the sequent
abbrev pub is_new : Sequent → ℕ → Bool
is_new s name =
    is_unknown (var_names s) (message_names s) name
    && not (list_any (λ (h : Hypothesis). mentions h.formula name) s.facts || mentions s.goal name)
