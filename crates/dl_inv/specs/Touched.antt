-- Which formulas a step of a protocol touches. A formula that a step does not touch has no obligation for it.
use Rattle.std.specs.Prelude.{ℕ, Bool, false, not, ◌&&◌, ◌||◌, ◌==◌, if◌then◌else◌, List, map}
use Rattle.dl_term.specs.declared.syntax.Lab.{Lab}
use Rattle.dl_term.specs.declared.syntax.Part.{Part}
use Rattle.dl_term.specs.declared.syntax.Part.TheVariants.{Live}
use Rattle.dl_term.specs.declared.syntax.Term.{Term, Num, Word, Var, Field', Row', Len, Msg, Add', Sub', Mul', If', more_of-Term as one, end_of-Term as end}
use Rattle.dl_term.specs.declared.syntax.Formula.{Formula, True, False, Eq, Lt, Le, Not', And', Or', Implies', All', Exists', Each', Any', more_of-Formula as one_formula, end_of-Formula as end_formula}
use Rattle.dl_model.specs.declared.protocol.Update.{Update}
use Rattle.dl_model.specs.Sorts.{has}
use Rattle.dl_model.specs.Scopes.{is_me}

-- The labels that are the step's, its tag, and the fields and rows that it updates. A send makes the soup grow, and a receive
-- does not. `spares_me` says that another node than `me` makes the step.
pub record Touch : Type 0 where
  pub here : Lab → Bool
  pub tag : ℕ
  pub fields : List ℕ
  pub grows : Bool
  pub spares_me : Bool

abbrev pub fields_of : List Update → List ℕ
fields_of updates = map (λ (u : Update). u.field) updates

abbrev pub field_touched : Touch → Lab → ℕ → Term → Bool
field_touched touch label field node = (touch.here label && has touch.fields field) && not (touch.spares_me && is_me node)

abbrev pub part_touched : Part → Bool → Bool
part_touched Live live = live
part_touched _ live = false

-- The step touches the term. `live` are the messages that are bound over the label and tag of a receive.
abbrev pub term_touched : Touch → (ℕ → Bool) → Term → Bool
term_touched touch live (Num v) = false
term_touched touch live (Word x v) = false
term_touched touch live (Var x) = false
term_touched touch live (Field' label field _ (one node end)) = field_touched touch label field node || term_touched touch live node
term_touched touch live (Row' label field _ (one node end) _ (one index end)) =
    field_touched touch label field node || (term_touched touch live node || term_touched touch live index)
term_touched touch live (Len label) = touch.grows && touch.here label
term_touched touch live (Msg msg part) = part_touched part (live msg)
term_touched touch live (Add' _ (one a end) _ (one b end)) = term_touched touch live a || term_touched touch live b
term_touched touch live (Sub' _ (one a end) _ (one b end)) = term_touched touch live a || term_touched touch live b
term_touched touch live (Mul' _ (one a end) _ (one b end)) = term_touched touch live a || term_touched touch live b
term_touched touch live (If' _ (one a end) _ (one b end) _ (one x end) _ (one y end)) =
    (term_touched touch live a || term_touched touch live b) || (term_touched touch live x || term_touched touch live y)

abbrev pub is_over : Touch → Lab → ℕ → Bool
is_over touch label tag = touch.here label && (tag == touch.tag)

abbrev pub bound_live : (ℕ → Bool) → ℕ → Bool → ℕ → Bool
bound_live live m is k = if k == m then is else live k

abbrev pub formula_touched : Touch → (ℕ → Bool) → Formula → Bool
formula_touched touch live True = false
formula_touched touch live False = false
formula_touched touch live (Eq a b) = term_touched touch live a || term_touched touch live b
formula_touched touch live (Lt a b) = term_touched touch live a || term_touched touch live b
formula_touched touch live (Le a b) = term_touched touch live a || term_touched touch live b
formula_touched touch live (Not' _ (one_formula f end_formula)) = formula_touched touch live f
formula_touched touch live (And' _ (one_formula f end_formula) _ (one_formula g end_formula)) = formula_touched touch live f || formula_touched touch live g
formula_touched touch live (Or' _ (one_formula f end_formula) _ (one_formula g end_formula)) = formula_touched touch live f || formula_touched touch live g
formula_touched touch live (Implies' _ (one_formula f end_formula) _ (one_formula g end_formula)) = formula_touched touch live f || formula_touched touch live g
formula_touched touch live (All' x _ (one_formula body end_formula)) = formula_touched touch live body
formula_touched touch live (Exists' x _ (one_formula body end_formula)) = formula_touched touch live body
formula_touched touch live (Each' m label tag _ (one_formula body end_formula)) =
    (touch.grows && is_over touch label tag) || formula_touched touch (bound_live live m (not touch.grows && is_over touch label tag)) body
formula_touched touch live (Any' m label tag _ (one_formula body end_formula)) =
    (touch.grows && is_over touch label tag) || formula_touched touch (bound_live live m (not touch.grows && is_over touch label tag)) body

-- no message is in scope
abbrev pub none_live : ℕ → Bool
none_live m = false

-- the step touches the formula
abbrev pub is_touched : Touch → Formula → Bool
is_touched touch f = formula_touched touch none_live f
