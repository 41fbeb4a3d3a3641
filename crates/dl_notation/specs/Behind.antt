-- What stands before a place, by the parts before it.
use Rattle.std.specs.Prelude.{ℕ, pos, nat_le, Bool, true, false, List, [], ◌∷◌, ◌++◌, map, length, Option, Some, None, unwrap_or, codes, if◌then◌else◌}
use Rattle.std.specs.Str.{bytes_eq}
use Rattle.dl_term.specs.declared.syntax.Sort.{Sort}
use Rattle.dl_tree.specs.declared.tree.Tree.{Tree, Num}
use Rattle.dl_tree.specs.declared.tree.Tree.TheOpen.{Tree-F}
use Rattle.dl_tree.specs.declared.tree.Tree.TheOpen as layer
use Rattle.dl_tree.specs.declared.tree.Tree.TheFolds.{para-Tree}
use Rattle.dl_forms.specs.Context.{Text, look_up, is_among}
use Rattle.dl_forms.specs.Judge.{text_of}
use Rattle.dl_notation.specs.declared.role.Role.{Role}
use Rattle.dl_notation.specs.declared.role.Role.TheVariants.{Number, Name, Constant, Way, Formula, Term}
use Rattle.dl_notation.specs.declared.role.Role.TheVariants as role
use Rattle.dl_notation.specs.declared.role.NameRole.{NameRole}
use Rattle.dl_notation.specs.declared.role.NameRole.TheVariants as name
use Rattle.dl_notation.specs.declared.role.ListRole.{ListRole}
use Rattle.dl_notation.specs.declared.role.ListRole.TheVariants as list
use Rattle.dl_notation.specs.Notation.{Form}
use Rattle.dl_notation.specs.Trees.{parts_of, laid_out}
use Rattle.dl_notation.specs.Bound.{bound_in_formula}
use Rattle.dl_notation.specs.Environment.{ProtocolNames, WorldNames, ProcedureNames, Environment, no_protocol, int_sort, below, sort_named, protocol_number, arguments_of}
use Rattle.dl_notation.specs.Worlds.{no_world, world_named, composed}
use Rattle.dl_notation.specs.Obligations.{Given, given_by, own_of, obligation_name, texts_of, has_point, procedure_named}

-- ---- names

-- the texts with one more, where it isn't there already
abbrev pub with_text : List Text → Text → List Text
with_text texts text = if is_among text texts then texts else texts ++ text ∷ []

-- the texts with each of these
abbrev pub with_texts : List Text → List Text → List Text
with_texts texts [] = texts
with_texts texts (text ∷ more) = with_texts (with_text texts text) more

abbrev pub declaring : Environment → Text → Environment
declaring env text = record env { declared = env.declared ++ text ∷ [] }

abbrev pub listing : Environment → Text → Environment
listing env text = record env { listed = env.listed ++ text ∷ [] }

-- a variable that no quantifier binds
abbrev pub introducing : Environment → Text → Environment
introducing env text = record env { variables = env.variables ++ text ∷ []; others = with_text env.others text; listed = env.listed ++ text ∷ [] }

abbrev pub all_but_first : {X : Type 0} → List X → List X
all_but_first [] = []
all_but_first (x ∷ xs) = xs

abbrev pub wants_message : List Bool → Bool
wants_message [] = false
wants_message (message ∷ named) = message

-- a name that a proof gives to a part of its obligation
abbrev pub naming : Environment → Bool → Text → Environment
naming env true text = record env { messages = env.messages ++ text ∷ []; others = with_text env.others text; named = all_but_first env.named }
naming env false text = record env { variables = env.variables ++ text ∷ []; others = with_text env.others text; named = all_but_first env.named }

-- behind a name
abbrev pub named_behind : Environment → NameRole → Text → Environment
named_behind env name.NewNode text = record (declaring env text) { nodes = env.nodes ++ text ∷ []; words = env.words ++ (text, pos (length env.nodes)) ∷ [] }
named_behind env name.NewEnumerator text = record (declaring (listing env text) text) { words = env.words ++ (text, pos (length env.listed)) ∷ [] }
named_behind env name.NewSort text = declaring env text
named_behind env name.NewProtocol text = declaring env text
named_behind env name.NewLabel text = declaring env text
named_behind env name.NewHook text = declaring env text
named_behind env name.NewWorld text = declaring env text
named_behind env name.NewInvariant text = declaring env text
named_behind env name.NewProcedure text = declaring env text
named_behind env name.NewArgument text = introducing env text
named_behind env name.NewHookArgument text = introducing env text
named_behind env name.NewParameter text = introducing env text
named_behind env name.NewLocal text = record env { locals = env.locals ++ text ∷ []; others = with_text env.others text }
named_behind env name.NewStepName text = naming env (wants_message env.named) text
named_behind env name.NewOpened text = record env { variables = env.variables ++ text ∷ []; messages = env.messages ++ text ∷ []; others = with_text env.others text }
named_behind env name.NewHypothesis text = record env { hypotheses = env.hypotheses ++ text ∷ [] }
named_behind env name.NewLastHypothesis text = record env { pending = text ∷ [] }
named_behind env name.Protocol text = record env { own = unwrap_or (look_up text env.protocols) no_protocol }
named_behind env name.Sort text = record env { sort = sort_named env text }
named_behind env name.Core text = record env { core = text }
named_behind env name.Client text = record env { label = text }
named_behind env name.Label text = record env { label = text }
named_behind env name.HookTag text = record env { arguments = arguments_of env env.label text }
named_behind env name.ReceivedTag text = record env { arguments = arguments_of env env.label text }
named_behind env name.ListedLabel text = listing env text
named_behind env name.ListedHook text = listing env text
named_behind env name.UpdatedField text = listing env text
named_behind env name.Target text = listing env text
named_behind env name.DeployedNode text = listing env text
named_behind env name.Procedure text = record env { procedure = text; wanted = (procedure_named env text).sorts }
named_behind env _ text = env

abbrev pub constant_behind : Environment → Environment
constant_behind env = record env { wanted = all_but_first env.wanted }

-- ---- lists

-- what a list of this kind begins with; `Argument`, `Update`, `Targets` and `Program` go on with what stands around them
abbrev pub entered : Environment → ListRole → Text → Environment
entered env list.Item word = record env { variables = if bytes_eq word (codes "hook") then codes "me" ∷ codes "to" ∷ [] else codes "me" ∷ [] }
entered env list.Send word = record env { variables = env.variables ++ codes "to" ∷ []; listed = [] }
entered env list.Receive word = record env { variables = env.variables ++ codes "from" ∷ []; listed = [] }
entered env list.SortBody word = record env { listed = [] }
entered env list.Arguments word = record env { listed = [] }
entered env list.Parameters word = record env { listed = [] }
entered env list.WorldLabels word = record env { listed = [] }
entered env list.WorldHooks word = record env { listed = [] }
entered env list.Command word = record env { listed = []; points = if has_point word then env.points ++ word ∷ [] else env.points }
entered env list.Obligation word = record env { obligation = word }
entered env list.Script word = record env { pending = [] }
entered env _ word = env

-- what a list names for itself falls away behind it
abbrev pub closed : Environment → Environment → Environment
closed before inside = record inside {
  variables = before.variables;
  messages = before.messages;
  hypotheses = before.hypotheses;
  locals = before.locals;
  pending = before.pending;
  own = before.own;
  has_own = before.has_own;
  parameters = before.parameters;
  sort = before.sort;
  core = before.core;
  label = before.label;
  arguments = before.arguments;
  procedure = before.procedure;
  wanted = before.wanted;
  obligation = before.obligation;
  named = before.named;
  listed = before.listed;
}

-- the sort that `(range lo hi)` or `(enum c ..)` declares
abbrev pub declared_sort : List Tree → Sort
declared_sort (word ∷ Num low p ∷ Num high q ∷ []) = record { low = low; high = high }
declared_sort (word ∷ values) = below (length values)
declared_sort [] = int_sort

-- the names that stand in a list behind its word
abbrev pub names_behind_word : Tree → List Text
names_behind_word tree = all_but_first (texts_of (parts_of tree))

abbrev pub composition_of : Environment → List Text → WorldNames
composition_of env (first ∷ second ∷ []) = composed (world_named env first) (world_named env second)
composition_of env _ = no_world

-- `(labels L ..) (hooks H ..)`, or `(compose V1 V2)`
abbrev pub declared_world : Environment → List Tree → WorldNames
declared_world env (labels ∷ hooks ∷ []) = record { labels = names_behind_word labels; hooks = names_behind_word hooks }
declared_world env (composition ∷ []) = composition_of env (names_behind_word composition)
declared_world env _ = no_world

-- a hook's client
abbrev pub declared_client : List Tree → Text
declared_client (core ∷ client ∷ parts) = text_of client
declared_client _ = []

-- a procedure's variables are `me`, its parameters and its locals
abbrev pub declared_procedure : Environment → Text → ProcedureNames
declared_procedure env world = record { world = world; parameters = all_but_first env.variables; sorts = env.parameters; locals = env.locals; points = env.points }

-- behind an item
abbrev pub with_item : Environment → Text → List Tree → Environment
with_item env word (first ∷ part ∷ parts) =
    if bytes_eq word (codes "sort") then record env { sorts = env.sorts ++ (text_of first, declared_sort (parts_of part)) ∷ [] } else
    if bytes_eq word (codes "protocol") then record env { protocols = env.protocols ++ (text_of first, env.own) ∷ [] } else
    if bytes_eq word (codes "label") then record env { labels = env.labels ++ (text_of first, unwrap_or (protocol_number env (text_of part)) 0) ∷ [] } else
    if bytes_eq word (codes "hook") then record env { hooks = env.hooks ++ (text_of first, declared_client (part ∷ parts)) ∷ [] } else
    if bytes_eq word (codes "world") then record env { worlds = env.worlds ++ (text_of first, declared_world env (part ∷ parts)) ∷ [] } else
    if bytes_eq word (codes "invariant") then record env { invariants = env.invariants ++ (text_of first, text_of part) ∷ [] } else
    if bytes_eq word (codes "proc") then record env { procedures = env.procedures ++ (text_of first, declared_procedure env (text_of part)) ∷ []; points = [] } else env
with_item env word (first ∷ []) = if bytes_eq word (codes "protocol") then record env { protocols = env.protocols ++ (text_of first, env.own) ∷ [] } else env
with_item env word [] = env

abbrev pub has : {X : Type 0} → ℕ → List X → Bool
has count xs = nat_le count (length xs)

-- behind a part of a protocol
abbrev pub with_part : ProtocolNames → Text → List Tree → ProtocolNames
with_part own word (first ∷ second ∷ parts) =
    if bytes_eq word (codes "field") then record own { fields = own.fields ++ (text_of first, false) ∷ [] } else
    if bytes_eq word (codes "row") then record own { fields = own.fields ++ (text_of first, true) ∷ [] } else
    if bytes_eq word (codes "tag") then record own { tags = own.tags ++ (text_of first, record { arguments = length (parts_of second); is_received = has 2 parts }) ∷ [] } else own
with_part own word (first ∷ []) = if bytes_eq word (codes "coherence") then record own { is_coherent = true } else own
with_part own word [] = own

abbrev pub own_given : Environment → Option ProtocolNames → Environment
own_given env (Some own) = record env { own = own; has_own = true }
own_given env None = env

-- behind the name of an obligation
abbrev pub with_obligation : Environment → Text → List Tree → Environment
with_obligation env word parts =
    let given : Given = given_by env word parts in
    record (own_given env (own_of env word parts)) {
      proved = env.proved ++ obligation_name word parts ∷ [];
      variables = given.variables;
      hypotheses = given.hypotheses;
      named = given.named;
    }

-- behind a list, by what stood before it and at its end
abbrev pub left_behind : Environment → Environment → ListRole → Text → List Tree → Environment
left_behind before inside list.Item word parts = closed before (with_item inside word parts)
left_behind before inside list.ProtocolPart word parts = record (closed before inside) { own = with_part before.own word parts }
left_behind before inside list.Parameter word parts = record inside { parameters = inside.parameters ++ unwrap_or inside.sort int_sort ∷ [] }
left_behind before inside list.Send word parts = closed before inside
left_behind before inside list.Receive word parts = closed before inside
left_behind before inside list.Command word parts = closed before inside
left_behind before inside list.Obligation word parts = with_obligation before word parts
left_behind before inside list.Script word parts = record (closed before inside) { hypotheses = before.hypotheses ++ before.pending; pending = [] }
left_behind before inside _ word parts = inside

-- ---- trees

abbrev pub Passer : Type 0
Passer = ListRole → Environment → Environment

abbrev pub part_passer : Role → Tree × Passer → Environment → Environment
part_passer (Name n) part env = named_behind env n (text_of part.0)
part_passer Constant part env = constant_behind env
part_passer (Formula f) part env = record env { quantified = with_texts env.quantified (bound_in_formula part.0) }
part_passer (role.List l) part env = part.1 l env
part_passer _ part env = env

abbrev pub parts_passer : List Role → Option Role → List (Tree × Passer) → Environment → Environment
parts_passer (q ∷ qs) rest (part ∷ parts) env = parts_passer qs rest parts (part_passer q part env)
parts_passer [] (Some q) (part ∷ parts) env = parts_passer [] (Some q) parts (part_passer q part env)
parts_passer _ _ _ env = env

abbrev pub laid_passer : ListRole → Option (Form × Text × List (Tree × Passer)) → Environment → Environment
laid_passer l (Some laid) env = left_behind env (parts_passer laid.0.fixed laid.0.rest laid.2 (entered env l laid.1)) l laid.1 (map (λ part. part.0) laid.2)
laid_passer l None env = env

abbrev pub layer_passer : Tree-F (Tree × Passer) → Passer
layer_passer (layer.Num v p) l env = env
layer_passer (layer.Sym name p) l env = env
layer_passer (layer.List parts p) l env = laid_passer l (laid_out (λ part. text_of part.0) l parts) env

-- behind a list
unfoldable pub list_behind : Tree → ListRole → Environment → Environment
list_behind = para-Tree Passer layer_passer

-- behind a part of a list
abbrev pub behind_part : Environment → Role → Tree → Environment
behind_part env q part = part_passer q (part, list_behind part) env
