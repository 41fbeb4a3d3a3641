-- The formula that says before a step what a formula says after it.
use Rattle.std.specs.Prelude.{ℕ, pos, Bool, true, false, ◌&&◌, ◌==◌, if◌then◌else◌, Option, Some, None, List, [], ◌∷◌}
use Rattle.dl_term.specs.declared.syntax.Lab.{Lab}
use Rattle.dl_term.specs.declared.syntax.Part.{Part}
use Rattle.dl_term.specs.declared.syntax.Part.TheVariants.{Id, From, To, Live, Arg}
use Rattle.dl_term.specs.declared.syntax.Term.{Term, Num, Word, Var, Field, Field', Row, Row', Len, Msg, Add, Add', Sub, Sub', Mul, Mul', If, If', more_of-Term as one, end_of-Term as end}
use Rattle.dl_term.specs.declared.syntax.Formula.{Formula, True, False, Eq, Lt, Le, Not, Not', And, And', Or, Or', Implies, Implies', All, All', Exists, Exists', Each, Each', Any, Any', more_of-Formula as one_formula, end_of-Formula as end_formula}
use Rattle.dl_term.specs.Same.{same_label}
use Rattle.dl_model.specs.declared.protocol.Update.{Update}
use Rattle.dl_model.specs.declared.protocol.Instances.{Instances}
use Rattle.dl_subst.specs.declared.message.NewMessage.{NewMessage}
use Rattle.dl_subst.specs.Substitution.{message_substituted}
use Rattle.dl_wp.specs.declared.steps.SendStep.{SendStep}
use Rattle.dl_wp.specs.declared.steps.ReceiveStep.{ReceiveStep}
use Rattle.dl_wp.specs.Choices.{pick}
use Rattle.dl_wp.specs.Steps.{Move, Sends, Receives, Step, seen, seen_index, send_step, receive_step}

-- ---- terms

abbrev pub update_of : List Update → ℕ → Option Update
update_of [] field = None
update_of (u ∷ us) field = if u.field == field then Some u else update_of us field

-- the update that the step makes of a field at a label
abbrev pub update_at : Step → Lab → ℕ → Option Update
update_at step label field = if same_label label step.label then update_of step.updates field else None

-- The new value at the step's node, and what was read before elsewhere.
abbrev pub field_before : Step → Option Update → (node old : Term) → Term
field_before step None node old = old
field_before step (Some u) node old = pick node step.node (seen step u.value) old

abbrev pub row_before : Step → Option Update → (node index old : Term) → Term
row_before step None node index old = old
row_before step (Some u) node index old = pick node step.node (pick index (seen_index step u.index) (seen step u.value) old) old

-- the reads of a field and of a row, by the terms of node and index before the step
abbrev pub read_before : Step → Lab → ℕ → Term → Term
read_before step label field node = field_before step (update_at step label field) node (Field label field node)

abbrev pub row_read_before : Step → Lab → ℕ → Term → Term → Term
row_read_before step label field node index = row_before step (update_at step label field) node index (Row label field node index)

-- a send makes its soup longer
abbrev pub len_before : Move → Bool → Lab → Term
len_before (Sends new) true label = Add (Len label) (Num (pos 1))
len_before (Sends new) false label = Len label
len_before (Receives k) here label = Len label

-- a receive takes the mark from its message
abbrev pub live_before : Move → Bool → ℕ → Term
live_before (Receives k) true m = If (Msg m Id) (Msg k Id) (Num (pos 0)) (Msg m Live)
live_before (Receives k) false m = Msg m Live
live_before (Sends new) over m = Msg m Live

abbrev pub part_before : Move → Bool → ℕ → Part → Term
part_before move over m Live = live_before move over m
part_before move over m Id = Msg m Id
part_before move over m From = Msg m From
part_before move over m To = Msg m To
part_before move over m (Arg k) = Msg m (Arg k)

-- `over` are the names of messages that are bound over the label and tag of the step.
abbrev pub term_before : Step → (over : ℕ → Bool) → Term → Term
term_before step over (Num v) = Num v
term_before step over (Word sym v) = Word sym v
term_before step over (Var sym) = Var sym
term_before step over (Field' label field _ (one node end)) = read_before step label field (term_before step over node)
term_before step over (Row' label field _ (one node end) _ (one index end)) =
    row_read_before step label field (term_before step over node) (term_before step over index)
term_before step over (Len label) = len_before step.move (same_label label step.label) label
term_before step over (Msg m part) = part_before step.move (over m) m part
term_before step over (Add' _ (one a end) _ (one b end)) = Add (term_before step over a) (term_before step over b)
term_before step over (Sub' _ (one a end) _ (one b end)) = Sub (term_before step over a) (term_before step over b)
term_before step over (Mul' _ (one a end) _ (one b end)) = Mul (term_before step over a) (term_before step over b)
term_before step over (If' _ (one a end) _ (one b end) _ (one x end) _ (one y end)) =
    If (term_before step over a) (term_before step over b) (term_before step over x) (term_before step over y)

-- ---- formulas

abbrev pub is_over : Step → Lab → ℕ → Bool
is_over step label tag = same_label label step.label && (tag == step.tag)

abbrev pub bound_over : (ℕ → Bool) → ℕ → Bool → ℕ → Bool
bound_over over m is k = if k == m then is else over k

-- A quantifier over the messages of the sent tag speaks also of the one that is sent.
abbrev pub each_before : Move → Bool → ℕ → Lab → ℕ → Formula → Formula
each_before (Sends new) true m label tag f = And (Each m label tag f) (message_substituted f m new)
each_before (Sends new) false m label tag f = Each m label tag f
each_before (Receives k) over m label tag f = Each m label tag f

abbrev pub any_before : Move → Bool → ℕ → Lab → ℕ → Formula → Formula
any_before (Sends new) true m label tag f = Or (Any m label tag f) (message_substituted f m new)
any_before (Sends new) false m label tag f = Any m label tag f
any_before (Receives k) over m label tag f = Any m label tag f

abbrev pub before : Step → (over : ℕ → Bool) → Formula → Formula
before step over True = True
before step over False = False
before step over (Eq a b) = Eq (term_before step over a) (term_before step over b)
before step over (Lt a b) = Lt (term_before step over a) (term_before step over b)
before step over (Le a b) = Le (term_before step over a) (term_before step over b)
before step over (Not' _ (one_formula f end_formula)) = Not (before step over f)
before step over (And' _ (one_formula f end_formula) _ (one_formula g end_formula)) = And (before step over f) (before step over g)
before step over (Or' _ (one_formula f end_formula) _ (one_formula g end_formula)) = Or (before step over f) (before step over g)
before step over (Implies' _ (one_formula f end_formula) _ (one_formula g end_formula)) = Implies (before step over f) (before step over g)
before step over (All' x _ (one_formula f end_formula)) = All x (before step over f)
before step over (Exists' x _ (one_formula f end_formula)) = Exists x (before step over f)
before step over (Each' m label tag _ (one_formula f end_formula)) =
    each_before step.move (is_over step label tag) m label tag (before step (bound_over over m (is_over step label tag)) f)
before step over (Any' m label tag _ (one_formula f end_formula)) =
    any_before step.move (is_over step label tag) m label tag (before step (bound_over over m (is_over step label tag)) f)

-- ---- the two backward steps

abbrev pub before_sent : Instances → Option ℕ → SendStep → Formula → Formula
before_sent inst own step after = before (send_step inst own step) (λ m. false) after

abbrev pub before_received : Instances → Option ℕ → ReceiveStep → Formula → Formula
before_received inst own step after = before (receive_step inst own step) (λ m. false) after
