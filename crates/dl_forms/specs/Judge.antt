-- The first fault of a tree in its position.
use Rattle.std.specs.Prelude.{ℕ, ℤ, pos, nat_le, Bool, true, false, not, ◌||◌, List, [], ◌∷◌, Option, Some, None, length, if◌then◌else◌, codes, map, is_some, unwrap_or, option_and_then, slice_get}
use Rattle.std.specs.Char.{is_ascii_alphabetic}
use Rattle.std.specs.Str.{bytes_eq}
use Rattle.dl_tree.specs.declared.tree.Place.{Place}
use Rattle.dl_tree.specs.declared.tree.Tree.{Tree, Sym}
use Rattle.dl_tree.specs.declared.tree.Tree.TheOpen.{Tree-F}
use Rattle.dl_tree.specs.declared.tree.Tree.TheOpen as layer
use Rattle.dl_tree.specs.declared.tree.Tree.TheFolds.{para-Tree}
use Rattle.dl_forms.specs.declared.head.Head.{Head}
use Rattle.dl_forms.specs.declared.head.Head.TheVariants as head
use Rattle.dl_forms.specs.declared.position.Position.{Position}
use Rattle.dl_forms.specs.declared.position.Position.TheVariants.{Term, Formula, Label, Field, Tag, Message, NewVariable, NewMessage, Argument}
use Rattle.dl_forms.specs.declared.scope.Kind.{Kind}
use Rattle.dl_forms.specs.declared.scope.Kind.TheVariants as kinds
use Rattle.dl_forms.specs.Form.{head_of}
use Rattle.dl_forms.specs.Notation.{forms, form_with}
use Rattle.dl_forms.specs.Width.{is_wide}
use Rattle.dl_forms.specs.Context.{Text, Parts, Context, is_among, look_up}

-- a rule and a place
abbrev pub Fault : Type 0
Fault = ℕ × Place

-- the first of two
infixr 5 ◌or_else◌
abbrev pub ◌or_else◌ : Option Fault → Option Fault → Option Fault
(Some f) or_else later = Some f
None or_else later = later

abbrev pub at : Option ℕ → Place → Option Fault
at (Some rule) p = Some (rule, p)
at None p = None

abbrev pub rule_if : ℕ → Bool → Option ℕ
rule_if rule b = if b then Some rule else None

-- The stages: of forms alone, and of names, with what they stand for.
pub data Stage : Type 0 where
  OfForms : Stage
  OfNames : Context → Stage

-- ---- atoms

abbrev pub fits_number : Position → ℤ → Bool
fits_number Term v = true
fits_number Argument (pos k) = nat_le k 7
fits_number _ v = false

abbrev pub is_name : Text → Bool
is_name [] = false
is_name (b ∷ bs) = is_ascii_alphabetic b

abbrev pub fits_symbol : Position → Text → Bool
fits_symbol Formula name = bytes_eq name (codes "true") || bytes_eq name (codes "false")
fits_symbol Argument name = false
fits_symbol _ name = is_name name

abbrev pub protocol_parts : Context → Option ℕ → Option Parts
protocol_parts c protocol = option_and_then (slice_get c.protocols) protocol

-- whether a field is a row, where it is known
abbrev pub row_in : Option Parts → Text → Option Bool
row_in (Some parts) field = look_up field parts.fields
row_in None field = None

abbrev pub tags_in : Option Parts → List Text
tags_in (Some parts) = parts.tags
tags_in None = []

-- the rule that a name breaks in its position
abbrev pub name_rule : Context → Position → Text → Option ℕ
name_rule c Term name = rule_if 11 (not (is_among name c.variables || is_some (look_up name c.words)))
name_rule c Label name = rule_if 11 (not (is_some (look_up name c.labels)))
name_rule c Field name = rule_if 11 (not (is_some (row_in (protocol_parts c c.label_before) name)))
name_rule c Tag name = rule_if 11 (not (is_among name (tags_in (protocol_parts c c.label_before))))
name_rule c Message name = rule_if 11 (not (is_among name c.messages))
name_rule c NewVariable name = rule_if 13 (is_among name c.taken)
name_rule c NewMessage name = rule_if 13 (is_among name c.taken)
name_rule c _ name = None

abbrev pub symbol_rule : Stage → Position → Text → Option ℕ
symbol_rule stage q name = if fits_symbol q name then known_rule stage q name else Some 10
  where
    known_rule : Stage → Position → Text → Option ℕ
    known_rule OfForms q name = None
    known_rule (OfNames c) q name = name_rule c q name

-- ---- lists

abbrev pub text_of : Tree → Text
text_of (Sym name p) = name
text_of _ = []

-- the protocol of a label
abbrev pub protocol_named : Context → Tree → Option ℕ
protocol_named c (Sym name p) = look_up name c.labels
protocol_named c _ = None

-- whether a field of a label is a row, where both are known
abbrev pub row_at : Context → Tree → Tree → Option Bool
row_at c label (Sym field p) = row_in (protocol_parts c (protocol_named c label)) field
row_at c label _ = None

-- a row without an index, or a field with one
abbrev pub misses_index : Context → Head → List Tree → Bool
misses_index c head.Get (label ∷ field ∷ node ∷ []) = unwrap_or (row_at c label field) false
misses_index c head.Get (label ∷ field ∷ node ∷ index ∷ []) = not (unwrap_or (row_at c label field) true)
misses_index c _ _ = false

-- ---- kinds

-- neither whole formulas nor local ones, but expressions and tests
abbrev pub is_plain : Kind → Bool
is_plain kinds.Plain = true
is_plain _ = false

abbrev pub is_limited : Kind → Bool
is_limited kinds.Whole = false
is_limited _ = true

-- a local formula reads the fields of `me` alone
abbrev pub breaks_at : Kind → Tree → Bool
breaks_at kinds.Whole node = false
breaks_at kinds.Local node = not (bytes_eq (text_of node) (codes "me"))
breaks_at kinds.Plain node = true

abbrev pub breaks_read : Kind → List Tree → Bool
breaks_read kind (label ∷ field ∷ node ∷ rest) = breaks_at kind node
breaks_read kind _ = false

-- A list makes a formula not local, or an expression not of its kind.
abbrev pub breaks_kind : Kind → Head → List Tree → Bool
breaks_kind kind head.Get parts = breaks_read kind parts
breaks_kind kind head.Len parts = is_limited kind
breaks_kind kind head.Id parts = is_plain kind
breaks_kind kind head.From parts = is_plain kind
breaks_kind kind head.To parts = is_plain kind
breaks_kind kind head.Live parts = is_plain kind
breaks_kind kind head.Arg parts = is_plain kind
breaks_kind kind head.All parts = is_plain kind
breaks_kind kind head.Some parts = is_plain kind
breaks_kind kind head.Each parts = is_limited kind
breaks_kind kind head.Any parts = is_limited kind
breaks_kind kind _ parts = false

-- the rule that a list breaks as a whole
abbrev pub list_rule : Stage → Position → Head → List Tree → Option ℕ
list_rule OfForms q h parts = None
list_rule (OfNames c) q h parts = if breaks_kind c.kind h parts then Some 14 else if misses_index c h parts then Some 15 else rule_if 16 (is_wide c.words q h parts)

-- what names stand for behind a part
abbrev pub behind : Stage → Position → Tree → Stage
behind OfForms q part = OfForms
behind (OfNames c) Label part = OfNames (record c { label_before = protocol_named c part })
behind (OfNames c) Field part = OfNames (record c { label_before = None })
behind (OfNames c) Tag part = OfNames (record c { label_before = None })
behind (OfNames c) NewVariable part = OfNames (record c { variables = text_of part ∷ c.variables; taken = text_of part ∷ c.taken })
behind (OfNames c) NewMessage part = OfNames (record c { messages = text_of part ∷ c.messages; taken = text_of part ∷ c.taken })
behind (OfNames c) _ part = OfNames c

-- ---- trees

abbrev pub Judge : Type 0
Judge = Stage → Position → Option Fault

-- a list's parts, one after another
abbrev pub parts_judge : Stage → List Position → List (Tree × Judge) → Option Fault
parts_judge stage (q ∷ qs) (part ∷ parts) = part.1 stage q or_else parts_judge (behind stage q part.0) qs parts
parts_judge stage _ _ = None

abbrev pub form_judge : Stage → Position → Place → Head → List (Tree × Judge) → Option (List Position) → Option Fault
form_judge stage q p h parts (Some form) = at (list_rule stage q h (map (λ part. part.0) parts)) p or_else parts_judge stage form parts
form_judge stage q p h parts None = Some (10, p)

abbrev pub layer_judge : Tree-F (Tree × Judge) → Judge
layer_judge (layer.Num v p) stage q = if fits_number q v then None else Some (10, p)
layer_judge (layer.Sym name p) stage q = at (symbol_rule stage q name) p
layer_judge (layer.List [] p) stage q = Some (10, p)
layer_judge (layer.List (first ∷ parts) p) stage q =
    form_judge stage q p (head_of first.0) parts (form_with (length parts) (forms q (head_of first.0)))

-- The first fault of a tree in a stage: that of a list as a whole comes before those of its parts.
unfoldable pub fault : Tree → Stage → Position → Option Fault
fault = para-Tree Judge layer_judge

-- Faults of form come before all others.
unfoldable pub first_fault : Context → Position → Tree → Option Fault
first_fault c q tree = fault tree OfForms q or_else fault tree (OfNames c) q
