-- The tests of declarations are true exactly where the model's conditions hold.
use Rattle.std.proofs.Common.{◌≡◌, ℕ, zero, suc, ◌<◌, ◌≤◌, Bool, true, List, [], ◌∷◌, ◌++◌, length, map, refl, arith}
use Rattle.std.specs.Prelude.{nat_lt, nat_le, pos, Option, Some, None, is_some, slice_get, unwrap_or}
use Rattle.std.specs.List.{flat_map, AllByRecursion as Each}
use Rattle.std.proofs.lemmas.Bool.{ltb-true, lt-ltb, eqb-true, eq-eqb}
use Rattle.dl_term.specs.declared.syntax.Lab.TheVariants.{At}
use Rattle.dl_term.specs.declared.syntax.Sort.{Sort}
use Rattle.dl_term.specs.declared.syntax.Term.{Term}
use Rattle.dl_term.specs.declared.syntax.Formula.{Formula}
use Rattle.dl_term.specs.Meaning.{every_below}
use Rattle.dl_term.proofs.Quantifiers.{every_below-at, every_below-all}
use Rattle.dl_model.specs.declared.protocol.FieldDecl.{FieldDecl}
use Rattle.dl_model.specs.declared.protocol.Update.{Update}
use Rattle.dl_model.specs.declared.protocol.Transition.{Transition}
use Rattle.dl_model.specs.declared.protocol.Tag.{Tag}
use Rattle.dl_model.specs.declared.protocol.Protocol.{Protocol}
use Rattle.dl_model.specs.declared.protocol.Hook.{Hook}
use Rattle.dl_model.specs.declared.protocol.Instances.{Instances}
use Rattle.dl_model.specs.declared.program.Proc.{Proc}
use Rattle.dl_model.specs.declared.file.World.{World}
use Rattle.dl_model.specs.declared.file.Invariant.{Invariant}
use Rattle.dl_model.specs.declared.file.Decls.{Decls}
use Rattle.dl_model.specs.Sorts.{in_sort, has, is_i64, IsSort}
use Rattle.dl_model.specs.Lookup.{Parameter, arg_names, tag_at, no_tag, no_protocol, protocol_in}
use Rattle.dl_model.specs.Words.{me_word, to_word, from_word, first_name}
use Rattle.dl_model.specs.Block.{block_of}
use Rattle.dl_model.specs.States.{first_value}
use Rattle.dl_model.specs.Spoken.{bound_names}
use Rattle.dl_model.specs.Scopes.{IsTerm, IsFormula, IsIndex, own_label, file_label, protocol_found, is_field, is_tag, is_local}
use Rattle.dl_model.specs.Formed.{AreDistinct, AreNames, IsLocalTerm, IsLocalFormula, UpdateIsFormed, TransitionIsFormed, ReceiveIsFormed, AreParameters, TagIsFormed, FieldIsFormed, CoherenceIsFormed, ProtocolIsFormed, HookIsFormed, WorldIsFormed, InvariantIsFormed, InstancesAreFormed, transition_bound, tag_bound, coherence_bound, block_bound}
use Rattle.dl_formed.specs.Decided.{are_distinct, are_names, own_scope, hook_scope, file_scope, first_scope, is_sort, is_index_of_step, update_is_formed, transition_is_formed, receive_is_formed, has_sort, are_parameters, tag_is_formed, field_is_formed, coherence_is_formed, protocol_is_formed, instances_are_formed, takes, tag_in, are_below, is_sorted_at, hook_is_formed, world_is_formed, invariant_is_formed, receive_is_apart, tag_is_apart, coherence_is_apart, protocol_is_apart}
use Rattle.dl_formed.proofs.Deciding.{Says, itself, always, said, two, lacks, below, at_most, each, mapped, each_at, joined, flattened}
use Rattle.dl_formed.proofs.Knowing.{IsOther, apart, term_says, formula_says, step_term_says, step_formula_says}

-- ---- lists

pub distinct_says : (xs : List ℕ) → Says (are_distinct xs) (AreDistinct xs)
distinct_says [] = always
distinct_says (x ∷ xs) = two (lacks (has xs x)) (distinct_says xs)

below_says : (count : ℕ) (positions : List ℕ) → Says (are_below count positions) (Each (λ position. position < count) positions)
below_says count positions = each (λ position. nat_lt position count) (λ position. position < count) (λ position. below position count) positions

pub names_say : (xs : List ℕ) → Says (are_names xs) (AreNames xs)
names_say xs =
    said (AreDistinct xs × Each (λ name. first_name ≤ name) xs) (AreNames xs) (λ w. record { distinct = w.0; allowed = w.1 }) (λ r. (r.distinct, r.allowed))
    (two (distinct_says xs) (each (nat_le first_name) (λ name. first_name ≤ name) (at_most first_name) xs))

-- ---- protocols

sort_says : (sort : Sort) → Says (is_sort sort) (IsSort sort)
sort_says sort =
    said ((is_i64 sort.low ≡ true) × ((is_i64 sort.high ≡ true) × (in_sort sort (pos 0) ≡ true))) (IsSort sort)
    (λ w. record { low = w.0; high = w.1.0; holds_zero = w.1.1 }) (λ r. (r.low, (r.high, r.holds_zero)))
    (two (itself (is_i64 sort.low)) (two (itself (is_i64 sort.high)) (itself (in_sort sort (pos 0)))))

index_says : (protocol : Protocol) (variables : List ℕ) (index : Option Term) → Says (is_index_of_step (own_scope protocol variables) index) (IsIndex (IsLocalTerm protocol variables) index)
index_says protocol variables (Some index) = step_term_says (own_scope protocol variables) index
index_says protocol variables None = always

update_says : (protocol : Protocol) (variables : List ℕ) (update : Update) → Says (update_is_formed (own_scope protocol variables) update) (UpdateIsFormed protocol variables update)
update_says protocol variables update =
    said ((is_field (Some protocol) update.field (is_some update.index) ≡ true) × (IsIndex (IsLocalTerm protocol variables) update.index × IsLocalTerm protocol variables update.value))
    (UpdateIsFormed protocol variables update)
    (λ w. record { field = w.0; index = w.1.0; value = w.1.1 }) (λ r. (r.field, (r.index, r.value)))
    (two (itself (is_field (Some protocol) update.field (is_some update.index))) (two (index_says protocol variables update.index) (step_term_says (own_scope protocol variables) update.value)))

transition_says : (protocol : Protocol) (variables : List ℕ) (transition : Transition) →
    Says (transition_is_formed (own_scope protocol variables) transition) (TransitionIsFormed protocol variables transition)
transition_says protocol variables transition =
    said (IsLocalFormula (own_label protocol) variables transition.guard × (Each (UpdateIsFormed protocol variables) transition.updates × AreDistinct (map (λ (update : Update). update.field) transition.updates)))
    (TransitionIsFormed protocol variables transition)
    (λ w. record { guard = w.0; updates = w.1.0; once = w.1.1 }) (λ r. (r.guard, (r.updates, r.once)))
    (two (step_formula_says (own_scope protocol variables) transition.guard)
    (two (each (update_is_formed (own_scope protocol variables)) (UpdateIsFormed protocol variables) (update_says protocol variables) transition.updates)
    (distinct_says (map (λ (update : Update). update.field) transition.updates))))

receive_says : (protocol : Protocol) (variables : List ℕ) (receive : Option Transition) →
    Says (receive_is_formed (own_scope protocol variables) receive) (ReceiveIsFormed protocol variables receive)
receive_says protocol variables (Some transition) = transition_says protocol variables transition
receive_says protocol variables None = always

pub parameters_say : (params : List Parameter) → Says (are_parameters params) (AreParameters params)
parameters_say params = two (at_most (length params) 8) (mapped (λ (param : Parameter). param.1) has_sort IsSort (λ param. sort_says param.1) params)

tag_says : (protocol : Protocol) (tag : Tag) → Says (tag_is_formed protocol tag) (TagIsFormed protocol tag)
tag_says protocol tag =
    said (AreParameters tag.args × (AreNames (arg_names tag.args) ×
    (TransitionIsFormed protocol (me_word ∷ to_word ∷ arg_names tag.args) tag.send × ReceiveIsFormed protocol (me_word ∷ from_word ∷ arg_names tag.args) tag.receive)))
    (TagIsFormed protocol tag)
    (λ w. record { args = w.0; names = w.1.0; send = w.1.1.0; receive = w.1.1.1 }) (λ r. (r.args, (r.names, (r.send, r.receive))))
    (two (parameters_say tag.args) (two (names_say (arg_names tag.args))
    (two (transition_says protocol (me_word ∷ to_word ∷ arg_names tag.args) tag.send) (receive_says protocol (me_word ∷ from_word ∷ arg_names tag.args) tag.receive))))

every_says : (n : ℕ) (test : ℕ → Bool) → Says (every_below n test) ((k : ℕ) → k < n → test k ≡ true)
every_says n test = record { there = every_below-at n test; back = every_below-all n test }

field_says : (nodes : ℕ) (field : FieldDecl) → Says (field_is_formed nodes field) (FieldIsFormed nodes field)
field_says nodes field =
    said (IsSort field.sort × (IsTerm first_scope field.first × ((node : ℕ) → node < nodes → in_sort field.sort (first_value field node) ≡ true)))
    (FieldIsFormed nodes field)
    (λ w. record { sort = w.0; first = w.1.0; first_in_sort = w.1.1 }) (λ r. (r.sort, (r.first, r.first_in_sort)))
    (two (sort_says field.sort) (two (term_says first_scope field.first) (every_says nodes (is_sorted_at field))))

coherence_says : (protocol : Protocol) (coherence : Option Formula) → Says (coherence_is_formed protocol coherence) (CoherenceIsFormed protocol coherence)
coherence_says protocol (Some f) = formula_says (own_scope protocol []) f
coherence_says protocol None = always

protocol_says : (nodes : ℕ) (protocol : Protocol) → Says (protocol_is_formed nodes protocol) (ProtocolIsFormed nodes protocol)
protocol_says nodes protocol =
    said (((length protocol.fields ≤ 16) × (length protocol.tags ≤ 16)) × (AreNames (map (λ (field : FieldDecl). field.sym) protocol.fields) ×
    (AreNames (map (λ (tag : Tag). tag.sym) protocol.tags) × (Each (FieldIsFormed nodes) protocol.fields × (Each (TagIsFormed protocol) protocol.tags ×
    CoherenceIsFormed protocol protocol.coherence)))))
    (ProtocolIsFormed nodes protocol)
    (λ w. record { few_fields = w.0.0; few_tags = w.0.1; field_names = w.1.0; tag_names = w.1.1.0; fields = w.1.1.1.0; tags = w.1.1.1.1.0; coherence = w.1.1.1.1.1 })
    (λ r. ((r.few_fields, r.few_tags), (r.field_names, (r.tag_names, (r.fields, (r.tags, r.coherence))))))
    (two (two (at_most (length protocol.fields) 16) (at_most (length protocol.tags) 16))
    (two (names_say (map (λ (field : FieldDecl). field.sym) protocol.fields)) (two (names_say (map (λ (tag : Tag). tag.sym) protocol.tags))
    (two (each (field_is_formed nodes) (FieldIsFormed nodes) (field_says nodes) protocol.fields)
    (two (each (tag_is_formed protocol) (TagIsFormed protocol) (tag_says protocol) protocol.tags)
    (coherence_says protocol protocol.coherence))))))

pub instances_say : (inst : Instances) → Says (instances_are_formed inst) (InstancesAreFormed inst)
instances_say inst =
    said (((p : ℕ) (protocol : Protocol) → slice_get inst.protocols p ≡ Some protocol → ProtocolIsFormed inst.nodes protocol) × Each (λ protocol. protocol < length inst.protocols) inst.of)
    (InstancesAreFormed inst)
    (λ w. record { protocols = w.0; labels = w.1 }) (λ r. (r.protocols, r.labels))
    (two (each_at (protocol_is_formed inst.nodes) (ProtocolIsFormed inst.nodes) (protocol_says inst.nodes) inst.protocols)
    (below_says (length inst.protocols) inst.of))

-- ---- hooks, worlds, invariants, the deployment

-- a tag of the list, with so many arguments
listed_says : (tags : List Tag) (tag count : ℕ) →
    Says (takes (slice_get tags tag) count) ((nat_lt tag (length tags) ≡ true) × (count ≡ length (unwrap_or (slice_get tags tag) no_tag).args))
listed_says [] tag count = record { there = λ e. absurd (cc e); back = λ w. absurd (omega (arith, ltb-true tag 0 w.0)) }
listed_says (found ∷ tags) zero count = record { there = λ e. (lt-ltb 0 (length (found ∷ tags)) (omega arith), eqb-true count _ e); back = λ w. eq-eqb count _ w.1 }
listed_says (found ∷ tags) (suc tag) count =
    said ((nat_lt tag (length tags) ≡ true) × (count ≡ length (unwrap_or (slice_get tags tag) no_tag).args))
    ((nat_lt (suc tag) (length (found ∷ tags)) ≡ true) × (count ≡ length (unwrap_or (slice_get tags tag) no_tag).args))
    (λ w. (lt-ltb (suc tag) (length (found ∷ tags)) (omega (arith, ltb-true tag (length tags) w.0)), w.1))
    (λ w. (lt-ltb tag (length tags) (omega (arith, ltb-true (suc tag) (length (found ∷ tags)) w.0)), w.1))
    (listed_says tags tag count)

found_says : (protocol : Option Protocol) (tag count : ℕ) →
    Says (takes (tag_in protocol tag) count) ((is_tag protocol tag ≡ true) × (count ≡ length (unwrap_or (slice_get (unwrap_or protocol no_protocol).tags tag) no_tag).args))
found_says (Some protocol) tag count = listed_says protocol.tags tag count
found_says None tag count = record { there = λ e. absurd (cc e); back = λ w. absurd (cc w.0) }

pub placed_says : (inst : Instances) (place : Option ℕ) (tag count : ℕ) →
    Says (takes (tag_in (protocol_found inst place) tag) count)
    ((is_tag (protocol_found inst place) tag ≡ true) × (count ≡ length (unwrap_or (slice_get (protocol_in inst place).tags tag) no_tag).args))
placed_says inst (Some place) tag count = found_says (slice_get inst.protocols place) tag count
placed_says inst None tag count = record { there = λ e. absurd (cc e); back = λ w. absurd (cc w.0) }

pub hook_says : (inst : Instances) (hook : Hook) → Says (hook_is_formed inst hook) (HookIsFormed inst hook)
hook_says inst hook =
    said (((hook.core < length inst.of) × (hook.client < length inst.of)) × (((is_tag (file_label inst (At hook.client)) hook.tag ≡ true) ×
    (length hook.args ≡ length (tag_at inst hook.client hook.tag).args)) × (AreNames hook.args × (IsFormula (hook_scope inst hook) hook.formula × (is_local hook.formula ≡ true)))))
    (HookIsFormed inst hook)
    (λ w. record { core = w.0.0; client = w.0.1; tag = w.1.0.0; args = w.1.0.1; names = w.1.1.0; formula = w.1.1.1 })
    (λ r. ((r.core, r.client), ((r.tag, r.args), (r.names, r.formula))))
    (two (two (below hook.core (length inst.of)) (below hook.client (length inst.of)))
    (two (placed_says inst (slice_get inst.of hook.client) hook.tag (length hook.args))
    (two (names_say hook.args) (step_formula_says (hook_scope inst hook) hook.formula))))

pub world_says : (decls : Decls) (world : World) → Says (world_is_formed (length decls.inst.of) (length decls.hooks) world) (WorldIsFormed decls world)
world_says decls world =
    said (Each (λ label. label < length decls.inst.of) world.labels × (Each (λ hook. hook < length decls.hooks) world.hooks × (AreDistinct world.labels × AreDistinct world.hooks)))
    (WorldIsFormed decls world)
    (λ w. record { labels = w.0; hooks = w.1.0; labels_once = w.1.1.0; hooks_once = w.1.1.1 }) (λ r. (r.labels, (r.hooks, (r.labels_once, r.hooks_once))))
    (two (below_says (length decls.inst.of) world.labels) (two (below_says (length decls.hooks) world.hooks) (two (distinct_says world.labels) (distinct_says world.hooks))))

pub invariant_says : (decls : Decls) (invariant : Invariant) → Says (invariant_is_formed decls.inst (length decls.worlds) invariant) (InvariantIsFormed decls invariant)
invariant_says decls invariant =
    said ((invariant.world < length decls.worlds) × IsFormula (file_scope decls.inst) invariant.formula) (InvariantIsFormed decls invariant)
    (λ w. record { world = w.0; formula = w.1 }) (λ r. (r.world, r.formula))
    (two (below invariant.world (length decls.worlds)) (formula_says (file_scope decls.inst) invariant.formula))

-- ---- names of the file

receive_apart : (names : List ℕ) (receive : Option Transition) → Says (receive_is_apart names receive) (Each (IsOther names) (transition_bound receive))
receive_apart names (Some transition) = apart names transition.guard
receive_apart names None = record { there = λ e. tt; back = λ u. refl }

tag_apart : (names : List ℕ) (tag : Tag) → Says (tag_is_apart names tag) (Each (IsOther names) (tag_bound tag))
tag_apart names tag = joined (IsOther names) (bound_names tag.send.guard) (transition_bound tag.receive) (apart names tag.send.guard) (receive_apart names tag.receive)

coherence_apart : (names : List ℕ) (coherence : Option Formula) → Says (coherence_is_apart names coherence) (Each (IsOther names) (coherence_bound coherence))
coherence_apart names (Some f) = apart names f
coherence_apart names None = record { there = λ e. tt; back = λ u. refl }

pub protocol_apart : (names : List ℕ) (protocol : Protocol) →
    Says (protocol_is_apart names protocol) (Each (IsOther names) (flat_map tag_bound protocol.tags ++ coherence_bound protocol.coherence))
protocol_apart names protocol =
    joined (IsOther names) (flat_map tag_bound protocol.tags) (coherence_bound protocol.coherence)
    (flattened tag_bound (tag_is_apart names) (IsOther names) (tag_apart names) protocol.tags) (coherence_apart names protocol.coherence)

abbrev pub bound_of_protocol : Protocol → List ℕ
bound_of_protocol protocol = flat_map tag_bound protocol.tags ++ coherence_bound protocol.coherence

abbrev pub bound_of_hook : Hook → List ℕ
bound_of_hook hook = bound_names hook.formula

abbrev pub bound_of_invariant : Invariant → List ℕ
bound_of_invariant invariant = bound_names invariant.formula

abbrev pub bound_of_proc : Proc → List ℕ
bound_of_proc proc = bound_names proc.pre ++ (bound_names proc.post ++ block_bound (block_of proc.body))
