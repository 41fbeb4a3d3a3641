-- The rules of names and sorts, by where a name, a list or a value stands.
use Rattle.std.specs.Prelude.{ℕ, ℤ, pos, int_le, Bool, false, not, ◌&&◌, ◌||◌, ◌==◌, List, [], ◌∷◌, ◌++◌, map, length, Option, Some, None, is_some, codes, if◌then◌else◌}
use Rattle.std.specs.Option.{option_map}
use Rattle.std.specs.Str.{bytes_eq}
use Rattle.dl_term.specs.declared.syntax.Sort.{Sort}
use Rattle.dl_tree.specs.declared.tree.Tree.{Tree, Num, Sym, List'}
use Rattle.dl_forms.specs.declared.scope.Kind.{Kind}
use Rattle.dl_forms.specs.declared.scope.Kind.TheVariants as kinds
use Rattle.dl_forms.specs.Context.{Text, Parts, Context, is_among, look_up}
use Rattle.dl_forms.specs.Judge.{rule_if, text_of}
use Rattle.dl_forms.specs.Judge as inner
use Rattle.dl_forms.specs.Table.{reserved}
use Rattle.dl_notation.specs.declared.role.NameRole.{NameRole}
use Rattle.dl_notation.specs.declared.role.NameRole.TheVariants as name
use Rattle.dl_notation.specs.declared.role.ListRole.{ListRole}
use Rattle.dl_notation.specs.declared.role.ListRole.TheVariants as list
use Rattle.dl_notation.specs.declared.role.FormulaRole.{FormulaRole}
use Rattle.dl_notation.specs.declared.role.FormulaRole.TheVariants as formula
use Rattle.dl_notation.specs.declared.role.TermRole.{TermRole}
use Rattle.dl_notation.specs.declared.role.TermRole.TheVariants as term
use Rattle.dl_notation.specs.declared.role.NumberRole.{NumberRole}
use Rattle.dl_notation.specs.declared.role.NumberRole.TheVariants as number
use Rattle.dl_notation.specs.Environment.{TagNames, ProtocolNames, ProcedureNames, Environment, sort_named, tag_of, row_of, arguments_of}
use Rattle.dl_notation.specs.Obligations.{has_number, is_proved, obligation_name, procedure_named}
use Rattle.dl_notation.specs.Behind.{has}
use Rattle.dl_notation.specs.Values.{is_outside, is_first_outside}

-- ---- names

-- at one place the smallest rule is answered
infixr 5 ◌or_rule◌
abbrev pub ◌or_rule◌ : Option ℕ → Option ℕ → Option ℕ
(Some rule) or_rule later = Some rule
None or_rule later = later

abbrev pub knows : Bool → Option ℕ
knows known = rule_if 11 (not known)

-- a name that an item declares
abbrev pub declares : Environment → Text → Option ℕ
declares env text = rule_if 12 (is_among text reserved || is_among text env.declared)

-- a name that a protocol declares within itself
abbrev pub declares_within : {X : Type 0} → List (Text × X) → Text → Option ℕ
declares_within names text = rule_if 12 (is_among text reserved || is_some (look_up text names))

-- the names that are in scope
abbrev pub in_scope : Environment → List Text
in_scope env = env.variables ++ env.messages ++ env.hypotheses ++ env.locals

-- a hypothesis
abbrev pub supposes : Environment → Text → Option ℕ
supposes env text = rule_if 13 (is_among text reserved || (is_among text env.declared || is_among text (in_scope env)))

-- a variable that no quantifier binds
abbrev pub introduces : Environment → Text → Option ℕ
introduces env text = rule_if 13 (is_among text reserved || (is_among text env.declared || (is_among text (in_scope env) || is_among text env.quantified)))

-- a known name that may stand once in its list
abbrev pub lists : Environment → Bool → Text → Option ℕ
lists env known text = knows known or_rule rule_if 12 (is_among text env.listed)

abbrev pub is_received : Option TagNames → Bool
is_received (Some tag) = tag.is_received
is_received None = false

-- the rule that a name breaks where it stands
abbrev pub name_rule : Environment → NameRole → Text → Option ℕ
name_rule env name.NewNode text = declares env text or_rule rule_if 33 (has 16 env.nodes)
name_rule env name.NewSort text = declares env text
name_rule env name.NewEnumerator text = declares env text or_rule rule_if 33 (has 256 env.listed)
name_rule env name.NewProtocol text = declares env text
name_rule env name.NewField text = declares_within env.own.fields text
name_rule env name.NewTag text = declares_within env.own.tags text
name_rule env name.NewLabel text = declares env text
name_rule env name.NewHook text = declares env text
name_rule env name.NewWorld text = declares env text
name_rule env name.NewInvariant text = declares env text
name_rule env name.NewProcedure text = declares env text
name_rule env name.NewArgument text = introduces env text
name_rule env name.NewHookArgument text = introduces env text
name_rule env name.NewParameter text = introduces env text
name_rule env name.NewLocal text = introduces env text or_rule rule_if 33 (has 16 env.locals)
name_rule env name.Sort text = knows (is_some (sort_named env text))
name_rule env name.Protocol text = knows (is_some (look_up text env.protocols))
name_rule env name.Label text = knows (is_some (look_up text env.labels))
name_rule env name.Core text = knows (is_some (look_up text env.labels))
name_rule env name.Client text = knows (is_some (look_up text env.labels))
name_rule env name.HookTag text = knows (is_some (tag_of env env.label text))
name_rule env name.ListedLabel text = lists env (is_some (look_up text env.labels)) text
name_rule env name.ListedHook text = lists env (is_some (look_up text env.hooks)) text
name_rule env name.World text = knows (is_some (look_up text env.worlds))
name_rule env name.UpdatedField text = lists env (is_some (look_up text env.own.fields)) text
name_rule env name.SentTag text = knows (is_some (tag_of env env.label text))
name_rule env name.ReceivedTag text = knows (is_received (tag_of env env.label text))
name_rule env name.Target text = lists env (is_among text env.locals) text
name_rule env name.ReadField text = knows (is_some (row_of env env.label text))
name_rule env name.Callee text = knows (is_some (look_up text env.procedures))
name_rule env name.Procedure text = knows (is_some (look_up text env.procedures))
name_rule env name.DeployedNode text = lists env (is_among text env.nodes) text
name_rule env name.NewStepName text = introduces env text
name_rule env name.NewOpened text = introduces env text
name_rule env name.NewHypothesis text = supposes env text
name_rule env name.NewLastHypothesis text = supposes env text
name_rule env name.Invariant text = knows (is_some (look_up text env.invariants))
name_rule env name.Node text = knows (is_among text env.nodes)
name_rule env name.Claimed text = knows (is_some (look_up text env.protocols) || is_some (look_up text env.invariants))
name_rule env name.ProtocolTag text = knows (is_some (look_up text env.own.tags))
name_rule env name.StepTag text = knows (is_some (tag_of env env.label text))
name_rule env name.Hypothesis text = knows (is_among text env.hypotheses)
name_rule env name.Rewritten text = knows (bytes_eq text (codes "goal") || is_among text env.hypotheses)

-- the rule that a number breaks where it stands
abbrev pub number_rule : Environment → NumberRole → Tree → Option ℕ
number_rule env number.Point (Num v p) = knows (has_number env.obligation (procedure_named env env.procedure).points v)
number_rule env _ tree = None

-- ---- constants of a deployed procedure

abbrev pub wanted_sort : List Sort → Option Sort
wanted_sort [] = None
wanted_sort (sort ∷ sorts) = Some sort

abbrev pub word_rule : Environment → Option ℤ → Option ℕ
word_rule env (Some v) = rule_if 14 (is_outside (wanted_sort env.wanted) v)
word_rule env None = Some 11

abbrev pub constant_rule : Environment → Tree → Option ℕ
constant_rule env (Num v p) = rule_if 14 (is_outside (wanted_sort env.wanted) v)
constant_rule env (Sym text p) = word_rule env (look_up text env.words)
constant_rule env (List' s row p) = None

-- ---- lists

-- an interval that holds 0
abbrev pub is_range : List Tree → Bool
is_range (Num low p ∷ Num high q ∷ []) = int_le low (pos 0) && int_le (pos 0) high
is_range _ = false

-- there are as many things of an item's kind as there may be
abbrev pub is_full : Environment → Text → Bool
is_full env word =
    (bytes_eq word (codes "protocol") && has 64 env.protocols)
    || ((bytes_eq word (codes "label") && has 16 env.labels)
    || ((bytes_eq word (codes "hook") && has 64 env.hooks)
    || ((bytes_eq word (codes "world") && has 64 env.worlds)
    || ((bytes_eq word (codes "invariant") && has 64 env.invariants)
    || (bytes_eq word (codes "proc") && has 64 env.procedures)))))

abbrev pub is_full_protocol : ProtocolNames → Text → Bool
is_full_protocol own word =
    ((bytes_eq word (codes "field") || bytes_eq word (codes "row")) && has 16 own.fields) || (bytes_eq word (codes "tag") && has 16 own.tags)

-- it is a row, or a field, where it is known
abbrev pub is_row : Option Bool → Bool
is_row (Some row) = row
is_row None = false

abbrev pub is_field : Option Bool → Bool
is_field (Some row) = not row
is_field None = false

-- a row without an index, or a field with one
abbrev pub update_misses_index : Environment → List Tree → Bool
update_misses_index env (field ∷ value ∷ []) = is_row (look_up (text_of field) env.own.fields)
update_misses_index env (field ∷ index ∷ value ∷ []) = is_field (look_up (text_of field) env.own.fields)
update_misses_index env _ = false

abbrev pub is_other_count : Option ℕ → ℕ → Bool
is_other_count (Some wanted) count = not (wanted == count)
is_other_count None count = false

-- the number of a procedure's parameters
abbrev pub parameters_of : Environment → Text → Option ℕ
parameters_of env procedure = option_map (λ (p : ProcedureNames). length p.sorts) (look_up procedure env.procedures)

abbrev pub send_misses_arguments : Environment → List Tree → Bool
send_misses_arguments env (note ∷ label ∷ tag ∷ to ∷ args) = is_other_count (arguments_of env (text_of label) (text_of tag)) (length args)
send_misses_arguments env _ = false

abbrev pub call_misses_arguments : Environment → List Tree → Bool
call_misses_arguments env (note ∷ frame ∷ target ∷ callee ∷ args) = is_other_count (parameters_of env (text_of callee)) (length args)
call_misses_arguments env _ = false

abbrev pub read_misses_index : Environment → List Tree → Bool
read_misses_index env (note ∷ target ∷ label ∷ field ∷ []) = is_row (row_of env (text_of label) (text_of field))
read_misses_index env (note ∷ target ∷ label ∷ field ∷ index ∷ []) = is_field (row_of env (text_of label) (text_of field))
read_misses_index env _ = false

-- a command with a wrong number of arguments
abbrev pub misses_arguments : Environment → Text → List Tree → Bool
misses_arguments env word parts =
    (bytes_eq word (codes "send") && send_misses_arguments env parts)
    || ((bytes_eq word (codes "call") && call_misses_arguments env parts)
    || (bytes_eq word (codes "read") && read_misses_index env parts))

abbrev pub program_misses_constants : Environment → List Tree → Bool
program_misses_constants env (node ∷ procedure ∷ constants) = is_other_count (parameters_of env (text_of procedure)) (length constants)
program_misses_constants env _ = false

-- a sort that no value has, or not the value 0
abbrev pub is_no_sort : Text → List Tree → Bool
is_no_sort word parts = (bytes_eq word (codes "range") && not (is_range parts)) || (bytes_eq word (codes "enum") && not (has 1 parts))

-- the rule of names and sorts that a list breaks as a whole
abbrev pub list_rule_of_names : Environment → ListRole → Text → List Tree → Option ℕ
list_rule_of_names env list.Item word parts = rule_if 33 (is_full env word)
list_rule_of_names env list.SortBody word parts = rule_if 14 (is_no_sort word parts)
list_rule_of_names env list.ProtocolPart word parts = rule_if 33 (is_full_protocol env.own word)
list_rule_of_names env list.Argument word parts = rule_if 33 (has 8 env.listed)
list_rule_of_names env list.Parameter word parts = rule_if 33 (has 8 env.listed)
list_rule_of_names env list.HookArguments word parts = rule_if 15 (is_other_count env.arguments (length parts))
list_rule_of_names env list.Targets word parts = rule_if 15 (is_other_count env.arguments (length parts))
list_rule_of_names env list.Update word parts = rule_if 15 (update_misses_index env parts)
list_rule_of_names env list.Command word parts = rule_if 15 (misses_arguments env word parts)
list_rule_of_names env list.Program word parts = rule_if 15 (program_misses_constants env parts)
list_rule_of_names env list.Obligation word parts = rule_if 12 (is_proved env (obligation_name word parts))
list_rule_of_names env list.StepNames word parts = rule_if 15 (not (length env.named == length parts))
list_rule_of_names env _ word parts = None

-- ---- terms and formulas

abbrev pub inner_parts : ProtocolNames → Parts
inner_parts protocol = record { fields = protocol.fields; tags = map (λ (tag : Text × TagNames). tag.0) protocol.tags }

abbrev pub all_parts : Environment → List Parts
all_parts env = map (λ (protocol : Text × ProtocolNames). inner_parts protocol.1) env.protocols

-- what may be named in a formula or a term with these variables and labels
abbrev pub context_with : Environment → List Text → List (Text × ℕ) → List Parts → Kind → Context
context_with env variables labels protocols kind = record {
  variables = variables;
  messages = env.messages;
  words = env.words;
  labels = labels;
  protocols = protocols;
  taken = reserved ++ variables ++ env.messages ++ env.hypotheses ++ env.declared ++ env.others;
  label_before = None;
  kind = kind;
}

-- where every label may be named
abbrev pub file_context : Environment → List Text → Kind → Context
file_context env variables kind = context_with env variables env.labels (all_parts env) kind

-- where `self` is the label of the protocol that the item declares
abbrev pub own_context : Environment → List Text → Kind → Context
own_context env variables kind = context_with env variables ((codes "self", length env.protocols) ∷ []) (all_parts env ++ inner_parts env.own ∷ []) kind

-- a label that is no label of the hook has no text here, so that no name is its name
abbrev pub hook_labels : Environment → List (Text × ℕ) → List (Text × ℕ)
hook_labels env [] = []
hook_labels env (label ∷ labels) =
    ((if bytes_eq label.0 env.core || bytes_eq label.0 env.label then label.0 else []), label.1) ∷ hook_labels env labels

abbrev pub hook_context : Environment → Context
hook_context env = context_with env env.variables (hook_labels env env.labels) (all_parts env) kinds.Local

-- the variables of a procedure's commands
abbrev pub command_variables : Environment → List Text
command_variables env = env.variables ++ env.locals

abbrev pub obligation_context : Environment → Context
obligation_context env = if env.has_own then own_context env env.variables kinds.Whole else file_context env env.variables kinds.Whole

-- the nodes and enumerators whose names are no variable's
abbrev pub other_words : List Text → List (Text × ℤ) → List (Text × ℤ)
other_words variables [] = []
other_words variables (word ∷ words) = if is_among word.0 variables then other_words variables words else word ∷ other_words variables words

-- in the script of a protocol's obligation `self` is the only label
abbrev pub script_context : Environment → Context
script_context env = record (obligation_context env) { words = other_words env.variables env.words }

-- what a quantifier is taken at may be the name of a message
abbrev pub given_context : Environment → Tree → Context
given_context env (Sym text p) = record (script_context env) { variables = env.variables ++ env.messages }
given_context env _ = script_context env

abbrev pub formula_stage : Environment → FormulaRole → inner.Stage
formula_stage env formula.Guard = inner.OfNames (own_context env env.variables kinds.Local)
formula_stage env formula.Coherence = inner.OfNames (own_context env [] kinds.Whole)
formula_stage env formula.Hook = inner.OfNames (hook_context env)
formula_stage env formula.Invariant = inner.OfNames (file_context env [] kinds.Whole)
formula_stage env formula.Precondition = inner.OfNames (file_context env env.variables kinds.Whole)
formula_stage env formula.Postcondition = inner.OfNames (file_context env (env.variables ++ codes "result" ∷ []) kinds.Whole)
formula_stage env formula.Annotation = inner.OfNames (file_context env (command_variables env) kinds.Whole)
formula_stage env formula.Frame = inner.OfNames (file_context env (command_variables env) kinds.Whole)
formula_stage env formula.Test = inner.OfNames (file_context env (command_variables env) kinds.Plain)
formula_stage env formula.Claim = inner.OfNames (script_context env)

abbrev pub term_stage : Environment → TermRole → Tree → inner.Stage
term_stage env term.FirstValue tree = inner.OfNames (context_with env (codes "me" ∷ []) [] [] kinds.Plain)
term_stage env term.Update tree = inner.OfNames (own_context env env.variables kinds.Local)
term_stage env term.Expression tree = inner.OfNames (file_context env (command_variables env) kinds.Plain)
term_stage env term.Bounded tree = inner.OfNames (script_context env)
term_stage env term.Given tree = inner.OfNames (given_context env tree)

-- the rule that a term breaks that has no fault within it
abbrev pub term_rule : Environment → TermRole → Tree → Option ℕ
term_rule env term.FirstValue tree = rule_if 14 (is_first_outside env tree)
term_rule env _ tree = None
