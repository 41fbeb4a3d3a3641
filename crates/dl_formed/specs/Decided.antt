-- Whether protocols, hooks, worlds and invariants are formed, as tests: one for each condition of the model.
use Rattle.std.specs.Prelude.{ℕ, nat_lt, nat_le, pos, Bool, true, false, not, ◌&&◌, ◌==◌, Option, Some, None, is_some, List, [], ◌∷◌, length, map, slice_get}
use Rattle.std.specs.List.{list_all}
use Rattle.dl_term.specs.declared.syntax.Lab.TheVariants.{Own, At}
use Rattle.dl_term.specs.declared.syntax.Sort.{Sort}
use Rattle.dl_term.specs.declared.syntax.Term.{Term}
use Rattle.dl_term.specs.declared.syntax.Formula.{Formula}
use Rattle.dl_term.specs.Meaning.{every_below}
use Rattle.dl_model.specs.declared.protocol.FieldDecl.{FieldDecl}
use Rattle.dl_model.specs.declared.protocol.Update.{Update}
use Rattle.dl_model.specs.declared.protocol.Transition.{Transition}
use Rattle.dl_model.specs.declared.protocol.Tag.{Tag}
use Rattle.dl_model.specs.declared.protocol.Protocol.{Protocol}
use Rattle.dl_model.specs.declared.protocol.Hook.{Hook}
use Rattle.dl_model.specs.declared.protocol.Instances.{Instances}
use Rattle.dl_model.specs.declared.file.World.{World}
use Rattle.dl_model.specs.declared.file.Invariant.{Invariant}
use Rattle.dl_model.specs.Sorts.{in_sort, has, is_i64}
use Rattle.dl_model.specs.Lookup.{Parameter, arg_names}
use Rattle.dl_model.specs.Words.{me_word, to_word, from_word, first_name}
use Rattle.dl_model.specs.States.{first_value}
use Rattle.dl_model.specs.Scopes.{Scope, own_label, file_label, hook_label, no_label, is_field}
use Rattle.dl_formed.specs.Known.{is_term, is_formula, is_term_of_step, is_formula_of_step, formula_is_apart}

-- ---- lists

abbrev pub are_distinct : List ℕ → Bool
are_distinct [] = true
are_distinct (x ∷ xs) = not (has xs x) && are_distinct xs

-- names that a file may declare, each once
abbrev pub are_names : List ℕ → Bool
are_names names = are_distinct names && list_all (nat_le first_name) names

abbrev pub field_names : List FieldDecl → List ℕ
field_names fields = map (λ (field : FieldDecl). field.sym) fields

abbrev pub tag_names : List Tag → List ℕ
tag_names tags = map (λ (tag : Tag). tag.sym) tags

abbrev pub updated_fields : List Update → List ℕ
updated_fields updates = map (λ (update : Update). update.field) updates

-- ---- scopes

abbrev pub own_scope : Protocol → List ℕ → Scope
own_scope protocol variables = record { protocol = own_label protocol; variables = variables; messages = [] }

abbrev pub file_scope : Instances → Scope
file_scope inst = record { protocol = file_label inst; variables = []; messages = [] }

abbrev pub hook_scope : Instances → Hook → Scope
hook_scope inst hook = record { protocol = hook_label inst hook; variables = me_word ∷ to_word ∷ hook.args; messages = [] }

-- what a first value may name
abbrev pub first_scope : Scope
first_scope = record { protocol = no_label; variables = me_word ∷ []; messages = [] }

-- ---- protocols

abbrev pub is_sort : Sort → Bool
is_sort sort = is_i64 sort.low && (is_i64 sort.high && in_sort sort (pos 0))

abbrev pub is_index_of_step : Scope → Option Term → Bool
is_index_of_step scope (Some index) = is_term_of_step scope index
is_index_of_step scope None = true

abbrev pub update_is_formed : Scope → Update → Bool
update_is_formed scope update =
    is_field (scope.protocol Own) update.field (is_some update.index) && (is_index_of_step scope update.index && is_term_of_step scope update.value)

abbrev pub transition_is_formed : Scope → Transition → Bool
transition_is_formed scope transition =
    is_formula_of_step scope transition.guard && (list_all (update_is_formed scope) transition.updates && are_distinct (updated_fields transition.updates))

abbrev pub receive_is_formed : Scope → Option Transition → Bool
receive_is_formed scope (Some transition) = transition_is_formed scope transition
receive_is_formed scope None = true

abbrev pub has_sort : Parameter → Bool
has_sort param = is_sort param.1

abbrev pub are_parameters : List Parameter → Bool
are_parameters params = nat_le (length params) 8 && list_all has_sort params

abbrev pub tag_is_formed : Protocol → Tag → Bool
tag_is_formed protocol tag =
    are_parameters tag.args && (are_names (arg_names tag.args) &&
    (transition_is_formed (own_scope protocol (me_word ∷ to_word ∷ arg_names tag.args)) tag.send &&
    receive_is_formed (own_scope protocol (me_word ∷ from_word ∷ arg_names tag.args)) tag.receive))

-- the first value is in the field's sort, at a node and at each of so many
abbrev pub is_sorted_at : FieldDecl → ℕ → Bool
is_sorted_at field node = in_sort field.sort (first_value field node)

abbrev pub first_is_sorted : ℕ → FieldDecl → Bool
first_is_sorted nodes field = every_below nodes (is_sorted_at field)

abbrev pub field_is_formed : ℕ → FieldDecl → Bool
field_is_formed nodes field = is_sort field.sort && (is_term first_scope field.first && first_is_sorted nodes field)

abbrev pub coherence_is_formed : Protocol → Option Formula → Bool
coherence_is_formed protocol (Some f) = is_formula (own_scope protocol []) f
coherence_is_formed protocol None = true

abbrev pub has_few_parts : Protocol → Bool
has_few_parts protocol = nat_le (length protocol.fields) 16 && nat_le (length protocol.tags) 16

abbrev pub protocol_is_formed : ℕ → Protocol → Bool
protocol_is_formed nodes protocol =
    has_few_parts protocol && (are_names (field_names protocol.fields) && (are_names (tag_names protocol.tags) &&
    (list_all (field_is_formed nodes) protocol.fields && (list_all (tag_is_formed protocol) protocol.tags &&
    coherence_is_formed protocol protocol.coherence))))

-- each position is one of so many items
abbrev pub are_below : ℕ → List ℕ → Bool
are_below count positions = list_all (λ position. nat_lt position count) positions

abbrev pub instances_are_formed : Instances → Bool
instances_are_formed inst = list_all (protocol_is_formed inst.nodes) inst.protocols && are_below (length inst.protocols) inst.of

-- ---- hooks, worlds, invariants, the deployment

abbrev pub has_labels : Instances → Hook → Bool
has_labels inst hook = nat_lt hook.core (length inst.of) && nat_lt hook.client (length inst.of)

abbrev pub tag_in : Option Protocol → ℕ → Option Tag
tag_in (Some protocol) tag = slice_get protocol.tags tag
tag_in None tag = None

-- there is a tag, of so many arguments
abbrev pub takes : Option Tag → ℕ → Bool
takes (Some tag) count = count == length tag.args
takes None count = false

abbrev pub has_tag : Instances → Hook → Bool
has_tag inst hook = takes (tag_in (file_label inst (At hook.client)) hook.tag) (length hook.args)

abbrev pub hook_is_formed : Instances → Hook → Bool
hook_is_formed inst hook =
    has_labels inst hook && (has_tag inst hook && (are_names hook.args && is_formula_of_step (hook_scope inst hook) hook.formula))

-- of a file with so many labels and hooks
abbrev pub world_is_formed : ℕ → ℕ → World → Bool
world_is_formed labels hooks world =
    are_below labels world.labels && (are_below hooks world.hooks && (are_distinct world.labels && are_distinct world.hooks))

-- of a file with so many worlds
abbrev pub invariant_is_formed : Instances → ℕ → Invariant → Bool
invariant_is_formed inst worlds invariant = nat_lt invariant.world worlds && is_formula (file_scope inst) invariant.formula

-- ---- names of the file

abbrev pub receive_is_apart : List ℕ → Option Transition → Bool
receive_is_apart names (Some transition) = formula_is_apart names transition.guard
receive_is_apart names None = true

abbrev pub tag_is_apart : List ℕ → Tag → Bool
tag_is_apart names tag = formula_is_apart names tag.send.guard && receive_is_apart names tag.receive

abbrev pub coherence_is_apart : List ℕ → Option Formula → Bool
coherence_is_apart names (Some f) = formula_is_apart names f
coherence_is_apart names None = true

abbrev pub protocol_is_apart : List ℕ → Protocol → Bool
protocol_is_apart names protocol = list_all (tag_is_apart names) protocol.tags && coherence_is_apart names protocol.coherence

abbrev pub hook_is_apart : List ℕ → Hook → Bool
hook_is_apart names hook = formula_is_apart names hook.formula

abbrev pub invariant_is_apart : List ℕ → Invariant → Bool
invariant_is_apart names invariant = formula_is_apart names invariant.formula
