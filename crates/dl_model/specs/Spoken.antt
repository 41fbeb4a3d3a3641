-- What a formula names: labels, and names that its quantifiers bind. Both in the order in which they are written.
use Rattle.std.specs.Prelude.{ℕ, List, [], ◌∷◌, ◌++◌}
use Rattle.dl_term.specs.declared.syntax.Lab.{Lab}
use Rattle.dl_term.specs.declared.syntax.Term.{Term, Num, Word, Var, Field', Row', Len, Msg, Add', Sub', Mul', If', more_of-Term as one, end_of-Term as end}
use Rattle.dl_term.specs.declared.syntax.Formula.{Formula, True, False, Eq, Lt, Le, Not', And', Or', Implies', All', Exists', Each', Any', more_of-Formula as one_formula, end_of-Formula as end_formula}

abbrev pub term_labels : Term → List Lab
term_labels (Num v) = []
term_labels (Word sym v) = []
term_labels (Var sym) = []
term_labels (Field' label field _ (one node end)) = label ∷ term_labels node
term_labels (Row' label field _ (one node end) _ (one index end)) = label ∷ (term_labels node ++ term_labels index)
term_labels (Len label) = label ∷ []
term_labels (Msg msg part) = []
term_labels (Add' _ (one a end) _ (one b end)) = term_labels a ++ term_labels b
term_labels (Sub' _ (one a end) _ (one b end)) = term_labels a ++ term_labels b
term_labels (Mul' _ (one a end) _ (one b end)) = term_labels a ++ term_labels b
term_labels (If' _ (one a end) _ (one b end) _ (one x end) _ (one y end)) =
    (term_labels a ++ term_labels b) ++ (term_labels x ++ term_labels y)

-- the labels of fields, rows, lengths and quantifiers
abbrev pub labels_of : Formula → List Lab
labels_of True = []
labels_of False = []
labels_of (Eq a b) = term_labels a ++ term_labels b
labels_of (Lt a b) = term_labels a ++ term_labels b
labels_of (Le a b) = term_labels a ++ term_labels b
labels_of (Not' _ (one_formula f end_formula)) = labels_of f
labels_of (And' _ (one_formula f end_formula) _ (one_formula g end_formula)) = labels_of f ++ labels_of g
labels_of (Or' _ (one_formula f end_formula) _ (one_formula g end_formula)) = labels_of f ++ labels_of g
labels_of (Implies' _ (one_formula f end_formula) _ (one_formula g end_formula)) = labels_of f ++ labels_of g
labels_of (All' sym _ (one_formula body end_formula)) = labels_of body
labels_of (Exists' sym _ (one_formula body end_formula)) = labels_of body
labels_of (Each' msg label tag _ (one_formula body end_formula)) = label ∷ labels_of body
labels_of (Any' msg label tag _ (one_formula body end_formula)) = label ∷ labels_of body

abbrev pub bound_names : Formula → List ℕ
bound_names True = []
bound_names False = []
bound_names (Eq a b) = []
bound_names (Lt a b) = []
bound_names (Le a b) = []
bound_names (Not' _ (one_formula f end_formula)) = bound_names f
bound_names (And' _ (one_formula f end_formula) _ (one_formula g end_formula)) = bound_names f ++ bound_names g
bound_names (Or' _ (one_formula f end_formula) _ (one_formula g end_formula)) = bound_names f ++ bound_names g
bound_names (Implies' _ (one_formula f end_formula) _ (one_formula g end_formula)) = bound_names f ++ bound_names g
bound_names (All' sym _ (one_formula body end_formula)) = sym ∷ bound_names body
bound_names (Exists' sym _ (one_formula body end_formula)) = sym ∷ bound_names body
bound_names (Each' msg label tag _ (one_formula body end_formula)) = msg ∷ bound_names body
bound_names (Any' msg label tag _ (one_formula body end_formula)) = msg ∷ bound_names body
