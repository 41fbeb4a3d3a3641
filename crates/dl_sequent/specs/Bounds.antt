-- The numbers between which a term lies in every well-sorted state.
use Rattle.std.specs.Prelude.{ℕ, ℤ, pos, ◌-ℤ◌, int_le, Bool, false, ◌&&◌, ◌==◌, if◌then◌else◌, List, Option, Some, None, slice_get}
use Rattle.std.specs.Option.{option_map, option_and_then}
use Rattle.std.specs.List.{find}
use Rattle.dl_term.specs.declared.syntax.Lab.{Lab}
use Rattle.dl_term.specs.declared.syntax.Lab.TheVariants.{Own, At}
use Rattle.dl_term.specs.declared.syntax.Part.{Part}
use Rattle.dl_term.specs.declared.syntax.Part.TheVariants.{Id, From, To, Live, Arg}
use Rattle.dl_term.specs.declared.syntax.Sort.{Sort}
use Rattle.dl_term.specs.declared.syntax.Term.{Term, Num, Word, Var, Field', Row', Len, Msg, Add', Sub', Mul', If', more_of-Term as one, end_of-Term as end}
use Rattle.dl_term.specs.declared.syntax.Formula.{Formula, True, Le, And}
use Rattle.dl_model.specs.declared.protocol.FieldDecl.{FieldDecl}
use Rattle.dl_model.specs.declared.protocol.Tag.{Tag}
use Rattle.dl_model.specs.declared.protocol.Protocol.{Protocol}
use Rattle.dl_model.specs.declared.protocol.Instances.{Instances}
use Rattle.dl_model.specs.declared.sequent.Sequent.{Sequent}
use Rattle.dl_model.specs.Lookup.{Parameter}
use Rattle.dl_model.specs.Scopes.{protocol_found}

-- ---- what the sequent and the declarations say of a name

-- the sort of the variable with this name
abbrev pub sort_of : List Parameter → ℕ → Option Sort
sort_of vars name = option_map (λ (v : Parameter). v.1) (find (λ (v : Parameter). v.0 == name) vars)

-- the name, the label and the tag of a message of a sequent
abbrev pub Declared : Type 0
Declared = record { 0 : ℕ; 1 : ℕ; 2 : ℕ }

abbrev pub message_of : List Declared → ℕ → Option Declared
message_of messages name = find (λ (m : Declared). m.0 == name) messages

-- the label of a message of a sequent, as a formula writes it
abbrev pub written_label : ℕ → Lab
written_label label = if label == 255 then Own else At label

-- the protocol of a label, where `self` has this one
abbrev pub protocol_of : Instances → Option ℕ → Lab → Option Protocol
protocol_of inst own Own = protocol_found inst own
protocol_of inst own (At label) = protocol_found inst (slice_get inst.of label)

-- ---- bounds

-- the nodes, as a sort
abbrev pub node_sort : ℕ → Sort
node_sort nodes = record { low = pos 0; high = pos nodes -ℤ pos 1 }

abbrev pub live_sort : Sort
live_sort = record { low = pos 0; high = pos 1 }

abbrev pub one_number : ℤ → Sort
one_number v = record { low = v; high = v }

abbrev pub field_sort : Option Protocol → ℕ → Option Sort
field_sort protocol field =
    option_and_then (λ (p : Protocol). option_map (λ (f : FieldDecl). f.sort) (slice_get p.fields field)) protocol

-- the sort of an argument, and past the last one 0 alone
abbrev pub arg_in : Option Parameter → Sort
arg_in (Some arg) = arg.1
arg_in None = one_number (pos 0)

abbrev pub arg_sort : Option Protocol → ℕ → ℕ → Option Sort
arg_sort protocol tag k =
    option_and_then (λ (p : Protocol). option_map (λ (t : Tag). arg_in (slice_get t.args k)) (slice_get p.tags tag)) protocol

-- a part of a message of the sequent
abbrev pub part_sort : Instances → Option ℕ → Part → Declared → Option Sort
part_sort inst own Id m = None
part_sort inst own From m = Some (node_sort inst.nodes)
part_sort inst own To m = Some (node_sort inst.nodes)
part_sort inst own Live m = Some live_sort
part_sort inst own (Arg k) m = arg_sort (protocol_of inst own (written_label m.1)) m.2 k

abbrev pub bounds_of : Instances → Sequent → Term → Option Sort
bounds_of inst s (Num v) = Some (one_number v)
bounds_of inst s (Word sym v) = Some (one_number v)
bounds_of inst s (Var name) = sort_of s.vars name
bounds_of inst s (Field' label field _ (one node end)) = field_sort (protocol_of inst s.own label) field
bounds_of inst s (Row' label field _ (one node end) _ (one index end)) = field_sort (protocol_of inst s.own label) field
bounds_of inst s (Msg name part) = option_and_then (part_sort inst s.own part) (message_of s.messages name)
bounds_of inst s (Len label) = None
bounds_of inst s (Add' _ (one a end) _ (one b end)) = None
bounds_of inst s (Sub' _ (one a end) _ (one b end)) = None
bounds_of inst s (Mul' _ (one a end) _ (one b end)) = None
bounds_of inst s (If' _ (one a end) _ (one b end) _ (one x end) _ (one y end)) = None

-- ---- what bounds decide

-- there are bounds, and they lie within the sort
abbrev pub lies_in : Option Sort → Sort → Bool
lies_in None sort = false
lies_in (Some within) sort = int_le sort.low within.low && int_le within.high sort.high

-- a term whose bounds lie within the node list
abbrev pub is_node_term : Instances → Sequent → Term → Bool
is_node_term inst s t = lies_in (bounds_of inst s t) (node_sort inst.nodes)

-- the term is at least `low` and at most `high`
abbrev pub between : Sort → Term → Formula
between sort t = And (Le (Num sort.low) t) (Le t (Num sort.high))

-- the formula that says that the term is in the sort, `true` where its bounds tell that
abbrev pub in_sort_formula : Instances → Sequent → Term → Sort → Formula
in_sort_formula inst s t sort = if lies_in (bounds_of inst s t) sort then True else between sort t
