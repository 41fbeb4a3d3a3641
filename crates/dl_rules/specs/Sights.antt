-- What a formula or a term may name, as the code holds it.
use Rattle.std.specs.Prelude.{ℕ, zero, suc, ℤ, Bool, List, [], ◌∷◌, ◌++◌, length, Option, None, codes, if◌then◌else◌}
use Rattle.dl_tree.specs.declared.tree.Tree.{Tree}
use Rattle.dl_forms.specs.declared.position.Position.{Position}
use Rattle.dl_forms.specs.declared.position.Position.TheVariants as position
use Rattle.dl_forms.specs.declared.scope.Kind.{Kind}
use Rattle.dl_forms.specs.Context.{Text, Parts, Context}
use Rattle.dl_forms.specs.Judge.{Stage, OfNames, text_of}
use Rattle.dl_forms.specs.Table.{reserved}
use Rattle.dl_notation.specs.Environment.{Environment}
use Rattle.dl_notation.specs.Rules.{inner_parts, all_parts, hook_labels, other_words}
use Rattle.dl_rules.specs.declared.sight.Variables.{Variables}
use Rattle.dl_rules.specs.declared.sight.Variables.TheVariants as variables
use Rattle.dl_rules.specs.declared.sight.Labels.{Labels}
use Rattle.dl_rules.specs.declared.sight.Labels.TheVariants as labels
use Rattle.dl_rules.specs.declared.sight.Sight.{Sight}
use Rattle.dl_rules.specs.declared.sight.Bound.{Bound, Nothing, Variable', Message'}
use Rattle.dl_scope.specs.Walked.{environment}

-- the variables that may be named
abbrev pub variables_in : Environment → Variables → List Text
variables_in env variables.Nothing = []
variables_in env variables.Me = codes "me" ∷ []
variables_in env variables.Item = env.variables
variables_in env variables.Result = env.variables ++ codes "result" ∷ []
variables_in env variables.Locals = env.variables ++ env.locals
variables_in env variables.Messages = env.variables ++ env.messages

-- those of them that aren't messages
abbrev pub numbers_in : Environment → Variables → List Text
numbers_in env variables.Messages = env.variables
numbers_in env v = variables_in env v

abbrev pub labels_in : Environment → Labels → List (Text × ℕ)
labels_in env labels.Nothing = []
labels_in env labels.Own = (codes "self", length env.protocols) ∷ []
labels_in env labels.File = env.labels
labels_in env labels.Hook = hook_labels env env.labels

abbrev pub protocols_in : Environment → Labels → List Parts
protocols_in env labels.Nothing = []
protocols_in env labels.Own = all_parts env ++ inner_parts env.own ∷ []
protocols_in env labels.File = all_parts env
protocols_in env labels.Hook = all_parts env

abbrev pub words_in : Environment → Bool → List (Text × ℤ)
words_in env hides = if hides then other_words env.variables env.words else env.words

-- the names that no quantifier may bind, those aside that are bound around it
abbrev pub taken_in : Environment → Variables → List Text
taken_in env v = reserved ++ numbers_in env v ++ env.messages ++ env.hypotheses ++ env.declared ++ env.others

abbrev pub context_in : Environment → Variables → Labels → Bool → Kind → Context
context_in env v l hides kind = record {
  variables = variables_in env v;
  messages = env.messages;
  words = words_in env hides;
  labels = labels_in env l;
  protocols = protocols_in env l;
  taken = taken_in env v;
  label_before = None;
  kind = kind;
}

abbrev pub context_of : Sight → Context
context_of s = context_in (environment s.walk.now) s.variables s.labels s.hides s.kind

-- ---- what quantifiers bind

pub data Binding : Type 0 where
  OfVariable : Text → Binding
  OfMessage : Text → Binding

abbrev pub bindings : Bound → List Binding
bindings Nothing = []
bindings (Variable' p around name) = OfVariable name.now ∷ bindings around
bindings (Message' p around name) = OfMessage name.now ∷ bindings around

abbrev pub bound_variables : List Binding → List Text
bound_variables [] = []
bound_variables (OfVariable name ∷ around) = name ∷ bound_variables around
bound_variables (OfMessage name ∷ around) = bound_variables around

abbrev pub bound_messages : List Binding → List Text
bound_messages [] = []
bound_messages (OfVariable name ∷ around) = bound_messages around
bound_messages (OfMessage name ∷ around) = name ∷ bound_messages around

abbrev pub bound_names : List Binding → List Text
bound_names [] = []
bound_names (OfVariable name ∷ around) = name ∷ bound_names around
bound_names (OfMessage name ∷ around) = name ∷ bound_names around

-- what is bound behind the first part of a form
abbrev pub bindings_inside : List Position → List Tree → List Binding → List Binding
bindings_inside (position.NewVariable ∷ qs) (part ∷ parts) outer = OfVariable (text_of part) ∷ outer
bindings_inside (position.NewMessage ∷ qs) (part ∷ parts) outer = OfMessage (text_of part) ∷ outer
bindings_inside qs parts outer = outer

-- what is bound at the part with this number
abbrev pub bindings_at : ℕ → List Binding → List Binding → List Binding
bindings_at zero outer inner = outer
bindings_at (suc i) outer inner = inner

-- the context behind these quantifiers and this label
abbrev pub seen : Context → List Binding → Option ℕ → Context
seen c bound label = record {
  variables = bound_variables bound ++ c.variables;
  messages = bound_messages bound ++ c.messages;
  words = c.words;
  labels = c.labels;
  protocols = c.protocols;
  taken = bound_names bound ++ c.taken;
  label_before = label;
  kind = c.kind;
}

-- the labels of a script
abbrev pub script_labels : Environment → Labels
script_labels env = if env.has_own then labels.Own else labels.File

-- the stage of what may be named there
abbrev pub in_context : Context → Stage
in_context c = OfNames c
