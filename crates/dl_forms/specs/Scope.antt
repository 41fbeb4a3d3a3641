-- What names stand for where the code reads.
use Rattle.std.specs.Prelude.{ℕ, suc, ℤ, Bool, false, List, [], ◌∷◌, ◌++◌, map, Option, Some, None, slice_get, unwrap_or, option_and_then, codes, if◌then◌else◌}
use Rattle.std.specs.Option.{option_map}
use Rattle.std.specs.Str.{bytes_eq}
use Rattle.dl_forms.specs.Table.{NameTable as Names, reserved, has_mark}
use Rattle.dl_forms.specs.declared.scope.Scope.{Scope}
use Rattle.dl_model.specs.declared.protocol.Instances.{Instances}
use Rattle.dl_model.specs.declared.protocol.Protocol.{Protocol}
use Rattle.dl_model.specs.declared.protocol.Tag.{Tag}
use Rattle.dl_model.specs.declared.protocol.FieldDecl.{FieldDecl}
use Rattle.dl_forms.specs.declared.scope.SortDecl.{SortDecl}
use Rattle.dl_forms.specs.declared.scope.Marks.{Marks}
use Rattle.dl_forms.specs.declared.scope.Bound.{Bound, Nothing, Variable', Message'}
use Rattle.dl_forms.specs.Context.{Text, Parts, Context}

-- the text of a name's number
abbrev pub text_at : Names → ℕ → Text
text_at names sym = unwrap_or (slice_get names.texts sym) []

-- a name that a quantifier binds: a variable or a message
pub data Binding : Type 0 where
  OfVariable : ℕ → Binding
  OfMessage : ℕ → Binding

-- what is bound around a place, from the innermost
abbrev pub bindings : Bound → List Binding
bindings Nothing = []
bindings (Variable' p around sym) = OfVariable sym ∷ bindings around
bindings (Message' p around sym) = OfMessage sym ∷ bindings around

abbrev pub bound_variables : List Binding → List ℕ
bound_variables [] = []
bound_variables (OfVariable sym ∷ around) = sym ∷ bound_variables around
bound_variables (OfMessage sym ∷ around) = bound_variables around

abbrev pub bound_messages : List Binding → List ℕ
bound_messages [] = []
bound_messages (OfVariable sym ∷ around) = bound_messages around
bound_messages (OfMessage sym ∷ around) = sym ∷ bound_messages around

-- the numbers of the variables, and of the messages, that may be named
abbrev pub variables : Scope → List Binding → List ℕ
variables scope bound = bound_variables bound ++ map (λ v. v.0) scope.vars

abbrev pub messages : Scope → List Binding → List ℕ
messages scope bound = bound_messages bound ++ map (λ m. m.0) scope.messages

-- the names of a protocol's tags
abbrev pub tag_syms : Protocol → List ℕ
tag_syms p = map (λ (t : Tag). t.sym) p.tags

abbrev pub parts_of : Names → Protocol → Parts
parts_of names p = record { fields = map (λ (f : FieldDecl). (text_at names f.sym, f.row)) p.fields; tags = map (text_at names) (tag_syms p) }

-- each label with its protocol
abbrev pub labels_from : Names → List ℕ → List ℕ → List (Text × ℕ)
labels_from names (sym ∷ syms) (protocol ∷ protocols) = (text_at names sym, protocol) ∷ labels_from names syms protocols
labels_from names _ _ = []

abbrev pub own_label : Option ℕ → List (Text × ℕ)
own_label (Some protocol) = (codes "self", protocol) ∷ []
own_label None = []

abbrev pub labels_of : Names → Scope → Instances → List (Text × ℕ)
labels_of names scope inst = own_label scope.own ++ labels_from names scope.labels inst.of

abbrev pub words_of : Names → Scope → List (Text × ℤ)
words_of names scope = map (λ w. (text_at names w.0, w.1)) scope.words

abbrev pub in_scope : Names → Scope → List Text
in_scope names scope = map (λ v. text_at names v.0) scope.vars ++ map (λ m. text_at names m.0) scope.messages

-- the sorts and their enumerators
abbrev pub sort_texts : Names → List SortDecl → List Text
sort_texts names [] = []
sort_texts names (s ∷ sorts) = text_at names s.sym ∷ map (text_at names) s.values ++ sort_texts names sorts

-- the declared names that are known here
abbrev pub declared : Names → Scope → Instances → List Text
declared names scope inst =
    sort_texts names names.sorts ++ map (λ (p : Protocol). text_at names p.sym) inst.protocols ++ map (λ w. text_at names w.0) scope.words ++ map (text_at names) scope.labels ++ map (text_at names) scope.declared

-- the names that have the mark
abbrev pub marked : Bool → List Text → List Marks → List Text
marked quantified (name ∷ names) (mark ∷ marks) = if has_mark quantified mark then name ∷ marked quantified names marks else marked quantified names marks
marked quantified _ _ = []

-- the names that quantifiers around a place bind, from the innermost
abbrev pub bound_names : List Binding → List ℕ
bound_names [] = []
bound_names (OfVariable sym ∷ around) = sym ∷ bound_names around
bound_names (OfMessage sym ∷ around) = sym ∷ bound_names around

-- the names that may not be bound in one way, because they stand for something or are bound in the other way elsewhere
abbrev pub taken_with : Bool → Names → Scope → Instances → List Text
taken_with quantified names scope inst = reserved ++ in_scope names scope ++ declared names scope inst ++ marked quantified names.texts names.marks

-- the names that no quantifier may bind, those aside that are bound around it
abbrev pub taken_outside : Names → Scope → Instances → List Text
taken_outside names scope inst = taken_with false names scope inst

abbrev pub taken : Names → Scope → Instances → List Binding → List Text
taken names scope inst bound = map (text_at names) (bound_names bound) ++ taken_outside names scope inst

abbrev pub context_of : Names → Scope → Instances → List Binding → Context
context_of names scope inst bound = record {
  variables = map (text_at names) (variables scope bound);
  messages = map (text_at names) (messages scope bound);
  words = words_of names scope;
  labels = labels_of names scope inst;
  protocols = map (parts_of names) inst.protocols;
  taken = taken names scope inst bound;
  label_before = None;
  kind = scope.kind;
}

-- the first of the numbers that has this text
abbrev pub first_named : Names → Text → List ℕ → Option ℕ
first_named names name [] = None
first_named names name (sym ∷ syms) = if bytes_eq name (text_at names sym) then Some sym else first_named names name syms

-- what stands beside the first number that has this text
abbrev pub named_entry : {X : Type 0} → Names → Text → List (ℕ × X) → Option (ℕ × X)
named_entry names name [] = None
named_entry names name (entry ∷ entries) = if bytes_eq name (text_at names entry.0) then Some entry else named_entry names name entries

-- the place of the first number that has this text
abbrev pub named_place : Names → Text → List ℕ → Option ℕ
named_place names name [] = None
named_place names name (sym ∷ syms) = if bytes_eq name (text_at names sym) then Some 0 else option_map (λ i. suc i) (named_place names name syms)

-- the place of the tag of a protocol that has this text
abbrev pub tag_named : Names → Instances → Option ℕ → Text → Option ℕ
tag_named names inst protocol name = option_and_then (λ (p : Protocol). named_place names name (tag_syms p)) (option_and_then (slice_get inst.protocols) protocol)

-- the first field that has this text
abbrev pub named_field : Names → Text → List FieldDecl → Option (ℕ × Bool)
named_field names name [] = None
named_field names name (f ∷ fs) = if bytes_eq name (text_at names f.sym) then Some (0, f.row) else option_map (λ p. (suc p.0, p.1)) (named_field names name fs)

-- the field of a protocol that has this text, and whether it is a row
abbrev pub field_named : Names → Instances → Option ℕ → Text → Option (ℕ × Bool)
field_named names inst protocol name = option_and_then (λ (p : Protocol). named_field names name p.fields) (option_and_then (slice_get inst.protocols) protocol)
