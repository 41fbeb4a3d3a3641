-- Whether a name of a step's term is bound around a place where the term is put.
use Rattle.std.specs.Prelude.{ℕ, Bool, false, ◌&&◌, ◌||◌, ◌==◌, if◌then◌else◌, Option, Some, None}
use Rattle.dl_term.specs.declared.syntax.Part.{Part}
use Rattle.dl_term.specs.declared.syntax.Part.TheVariants.{Id, From, To, Live, Arg}
use Rattle.dl_term.specs.declared.syntax.Term.{Term, Num, Word, Var, Field', Row', Len, Msg, Add', Sub', Mul', If', more_of-Term as one, end_of-Term as end}
use Rattle.dl_term.specs.declared.syntax.Formula.{Formula, True, False, Eq, Lt, Le, Not', And', Or', Implies', All', Exists', Each', Any', more_of-Formula as one_formula, end_of-Formula as end_formula}
use Rattle.dl_model.specs.declared.protocol.Update.{Update}
use Rattle.dl_subst.specs.Change.{mentions, and_name}
use Rattle.dl_subst.specs.Substitution.{new_part}
use Rattle.dl_wp.specs.Steps.{Move, Sends, Receives, Step, seen, seen_index}
use Rattle.dl_wp.specs.Before.{update_at, is_over, bound_over}

-- The names that quantifiers bind around a place. Of the messages, `over` are those whose innermost quantifier is over the
-- step's label and tag, and `beside m` are the names that are bound around but for the innermost quantifier of m.
pub record Around : Type 0 where
  pub variable : ℕ → Bool
  pub message : ℕ → Bool
  pub over : ℕ → Bool
  pub beside : ℕ → ℕ → Bool

abbrev pub nothing_around : Around
nothing_around = record { variable = λ x. false; message = λ m. false; over = λ m. false; beside = λ m k. false }

abbrev pub under_variable : Around → ℕ → Around
under_variable around x = record { variable = and_name x around.variable; message = around.message; over = around.over; beside = around.beside }

abbrev pub under_message : Around → ℕ → Bool → Around
under_message around m is = record {
  variable = around.variable;
  message = and_name m around.message;
  over = bound_over around.over m is;
  beside = λ k. if k == m then around.message else and_name m (around.beside k);
}

abbrev pub is_bound : Around → Term → Bool
is_bound around t = mentions around.variable around.message t

-- a read of an updated field is compared with the step's node, and has the new value
abbrev pub field_captures : Step → Around → Option Update → Bool
field_captures step around None = false
field_captures step around (Some u) = is_bound around step.node || is_bound around (seen step u.value)

abbrev pub row_captures : Step → Around → Option Update → Bool
row_captures step around None = false
row_captures step around (Some u) = is_bound around step.node || (is_bound around (seen_index step u.index) || is_bound around (seen step u.value))

-- The part of the sent message stands where no quantifier binds the name m any more.
-- The mark of a message is compared with the one that is received.
abbrev pub part_captures : Move → Around → ℕ → Part → Bool
part_captures (Sends new) around m part = around.over m && mentions around.variable (around.beside m) (new_part new part)
part_captures (Receives k) around m Live = around.over m && around.message k
part_captures (Receives k) around m Id = false
part_captures (Receives k) around m From = false
part_captures (Receives k) around m To = false
part_captures (Receives k) around m (Arg n) = false

abbrev pub term_captures : Step → Around → Term → Bool
term_captures step around (Num v) = false
term_captures step around (Word sym v) = false
term_captures step around (Var sym) = false
term_captures step around (Field' label field _ (one node end)) =
    field_captures step around (update_at step label field) || term_captures step around node
term_captures step around (Row' label field _ (one node end) _ (one index end)) =
    row_captures step around (update_at step label field) || (term_captures step around node || term_captures step around index)
term_captures step around (Len label) = false
term_captures step around (Msg m part) = part_captures step.move around m part
term_captures step around (Add' _ (one a end) _ (one b end)) = term_captures step around a || term_captures step around b
term_captures step around (Sub' _ (one a end) _ (one b end)) = term_captures step around a || term_captures step around b
term_captures step around (Mul' _ (one a end) _ (one b end)) = term_captures step around a || term_captures step around b
term_captures step around (If' _ (one a end) _ (one b end) _ (one x end) _ (one y end)) =
    (term_captures step around a || term_captures step around b) || (term_captures step around x || term_captures step around y)

-- a name of a term of the step is bound around its place
abbrev pub captures : Step → Around → Formula → Bool
captures step around True = false
captures step around False = false
captures step around (Eq a b) = term_captures step around a || term_captures step around b
captures step around (Lt a b) = term_captures step around a || term_captures step around b
captures step around (Le a b) = term_captures step around a || term_captures step around b
captures step around (Not' _ (one_formula f end_formula)) = captures step around f
captures step around (And' _ (one_formula f end_formula) _ (one_formula g end_formula)) = captures step around f || captures step around g
captures step around (Or' _ (one_formula f end_formula) _ (one_formula g end_formula)) = captures step around f || captures step around g
captures step around (Implies' _ (one_formula f end_formula) _ (one_formula g end_formula)) = captures step around f || captures step around g
captures step around (All' x _ (one_formula f end_formula)) = captures step (under_variable around x) f
captures step around (Exists' x _ (one_formula f end_formula)) = captures step (under_variable around x) f
captures step around (Each' m label tag _ (one_formula f end_formula)) = captures step (under_message around m (is_over step label tag)) f
captures step around (Any' m label tag _ (one_formula f end_formula)) = captures step (under_message around m (is_over step label tag)) f
