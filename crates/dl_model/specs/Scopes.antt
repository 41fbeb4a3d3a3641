-- What is in scope: terms and formulas whose labels, fields, variables and messages are known, and their kinds.
use Rattle.std.specs.Prelude.{◌≡◌, ℕ, nat_lt, nat_le, Bool, true, false, not, ◌&&◌, ◌||◌, ◌==◌, if◌then◌else◌, Option, Some, None, is_some, List, [], ◌∷◌, length, slice_get}
use Rattle.dl_term.specs.declared.syntax.Lab.{Lab}
use Rattle.dl_term.specs.declared.syntax.Lab.TheVariants.{Own, At}
use Rattle.dl_term.specs.declared.syntax.Part.{Part}
use Rattle.dl_term.specs.declared.syntax.Part.TheVariants.{Arg}
use Rattle.dl_term.specs.declared.syntax.Term.{Term, Num, Word, Var, Field', Row', Len, Msg, Add', Sub', Mul', If', more_of-Term as one, end_of-Term as end}
use Rattle.dl_term.specs.declared.syntax.Formula.{Formula, True, False, Eq, Lt, Le, Not', And', Or', Implies', All', Exists', Each', Any', more_of-Formula as one_formula, end_of-Formula as end_formula}
use Rattle.dl_term.specs.Measures.{IsNarrow, EachIsNarrow}
use Rattle.dl_model.specs.declared.protocol.FieldDecl.{FieldDecl}
use Rattle.dl_model.specs.declared.protocol.Protocol.{Protocol}
use Rattle.dl_model.specs.declared.protocol.Hook.{Hook}
use Rattle.dl_model.specs.declared.protocol.Instances.{Instances}
use Rattle.dl_model.specs.Sorts.{is_i64, has}
use Rattle.dl_model.specs.Words.{me_word, first_name}
use Rattle.dl_model.specs.Spoken.{bound_names}

-- ---- known

-- The protocol of each label that may be named, and the variables and messages that are known.
pub record Scope : Type 0 where
  pub protocol : Lab → Option Protocol
  pub variables : List ℕ
  pub messages : List ℕ

-- in a protocol: `self`
abbrev pub own_label : Protocol → Lab → Option Protocol
own_label protocol Own = Some protocol
own_label protocol (At label) = None

abbrev pub protocol_found : Instances → Option ℕ → Option Protocol
protocol_found inst (Some protocol) = slice_get inst.protocols protocol
protocol_found inst None = None

-- elsewhere: each label of the file
abbrev pub file_label : Instances → Lab → Option Protocol
file_label inst Own = None
file_label inst (At label) = protocol_found inst (slice_get inst.of label)

-- in a hook: its core and its client
abbrev pub hook_label : Instances → Hook → Lab → Option Protocol
hook_label inst hook Own = None
hook_label inst hook (At label) = if (label == hook.core) || (label == hook.client) then file_label inst (At label) else None

-- in an expression, a test or a first value: none
abbrev pub no_label : Lab → Option Protocol
no_label label = None

abbrev pub is_field_with : Option FieldDecl → Bool → Bool
is_field_with (Some field) row = if row then field.row else not field.row
is_field_with None row = false

-- the protocol has this field, and it is a row, or isn't one
abbrev pub is_field : Option Protocol → ℕ → Bool → Bool
is_field (Some protocol) field row = is_field_with (slice_get protocol.fields field) row
is_field None field row = false

abbrev pub is_tag : Option Protocol → ℕ → Bool
is_tag (Some protocol) tag = nat_lt tag (length protocol.tags)
is_tag None tag = false

abbrev pub is_part : Part → Bool
is_part (Arg k) = nat_lt k 8
is_part _ = true

-- each label, field, variable and message in the term is known
abbrev pub TermIsKnown : Scope → Term → Type 0
TermIsKnown scope (Num v) = is_i64 v ≡ true
TermIsKnown scope (Word sym v) = is_i64 v ≡ true
TermIsKnown scope (Var sym) = has scope.variables sym ≡ true
TermIsKnown scope (Field' label field _ (one node end)) = (is_field (scope.protocol label) field false ≡ true) × TermIsKnown scope node
TermIsKnown scope (Row' label field _ (one node end) _ (one index end)) =
    (is_field (scope.protocol label) field true ≡ true) × TermIsKnown scope node × TermIsKnown scope index
TermIsKnown scope (Len label) = is_some (scope.protocol label) ≡ true
TermIsKnown scope (Msg msg part) = (has scope.messages msg ≡ true) × (is_part part ≡ true)
TermIsKnown scope (Add' _ (one a end) _ (one b end)) = TermIsKnown scope a × TermIsKnown scope b
TermIsKnown scope (Sub' _ (one a end) _ (one b end)) = TermIsKnown scope a × TermIsKnown scope b
TermIsKnown scope (Mul' _ (one a end) _ (one b end)) = TermIsKnown scope a × TermIsKnown scope b
TermIsKnown scope (If' _ (one a end) _ (one b end) _ (one x end) _ (one y end)) =
    TermIsKnown scope a × TermIsKnown scope b × TermIsKnown scope x × TermIsKnown scope y

-- a quantifier may bind the name: it is a name of the file, and isn't in scope
abbrev pub is_fresh : Scope → ℕ → Bool
is_fresh scope name = nat_le first_name name && not (has scope.variables name || has scope.messages name)

abbrev pub with_variable : Scope → ℕ → Scope
with_variable scope name = record scope { variables = name ∷ scope.variables }

abbrev pub with_message : Scope → ℕ → Scope
with_message scope name = record scope { messages = name ∷ scope.messages }

abbrev pub FormulaIsKnown : Scope → Formula → Type 0
FormulaIsKnown scope True = Unit {0}
FormulaIsKnown scope False = Unit {0}
FormulaIsKnown scope (Eq a b) = TermIsKnown scope a × TermIsKnown scope b
FormulaIsKnown scope (Lt a b) = TermIsKnown scope a × TermIsKnown scope b
FormulaIsKnown scope (Le a b) = TermIsKnown scope a × TermIsKnown scope b
FormulaIsKnown scope (Not' _ (one_formula f end_formula)) = FormulaIsKnown scope f
FormulaIsKnown scope (And' _ (one_formula f end_formula) _ (one_formula g end_formula)) = FormulaIsKnown scope f × FormulaIsKnown scope g
FormulaIsKnown scope (Or' _ (one_formula f end_formula) _ (one_formula g end_formula)) = FormulaIsKnown scope f × FormulaIsKnown scope g
FormulaIsKnown scope (Implies' _ (one_formula f end_formula) _ (one_formula g end_formula)) = FormulaIsKnown scope f × FormulaIsKnown scope g
FormulaIsKnown scope (All' sym _ (one_formula body end_formula)) = (is_fresh scope sym ≡ true) × FormulaIsKnown (with_variable scope sym) body
FormulaIsKnown scope (Exists' sym _ (one_formula body end_formula)) = (is_fresh scope sym ≡ true) × FormulaIsKnown (with_variable scope sym) body
FormulaIsKnown scope (Each' msg label tag _ (one_formula body end_formula)) =
    (is_fresh scope msg ≡ true) × (is_tag (scope.protocol label) tag ≡ true) × FormulaIsKnown (with_message scope msg) body
FormulaIsKnown scope (Any' msg label tag _ (one_formula body end_formula)) =
    (is_fresh scope msg ≡ true) × (is_tag (scope.protocol label) tag ≡ true) × FormulaIsKnown (with_message scope msg) body

-- known, and evaluated within 128 bits
abbrev pub IsTerm : Scope → Term → Type 0
IsTerm scope term = TermIsKnown scope term × IsNarrow term

abbrev pub IsFormula : Scope → Formula → Type 0
IsFormula scope f = FormulaIsKnown scope f × EachIsNarrow f

-- ---- kinds of terms and formulas

abbrev pub is_me : Term → Bool
is_me (Var sym) = sym == me_word
is_me _ = false

-- a local term reads fields of `me` alone, and no length
abbrev pub is_local_term : Term → Bool
is_local_term (Num v) = true
is_local_term (Word sym v) = true
is_local_term (Var sym) = true
is_local_term (Field' label field _ (one node end)) = is_me node
is_local_term (Row' label field _ (one node end) _ (one index end)) = is_me node && is_local_term index
is_local_term (Len label) = false
is_local_term (Msg msg part) = true
is_local_term (Add' _ (one a end) _ (one b end)) = is_local_term a && is_local_term b
is_local_term (Sub' _ (one a end) _ (one b end)) = is_local_term a && is_local_term b
is_local_term (Mul' _ (one a end) _ (one b end)) = is_local_term a && is_local_term b
is_local_term (If' _ (one a end) _ (one b end) _ (one x end) _ (one y end)) =
    (is_local_term a && is_local_term b) && (is_local_term x && is_local_term y)

-- a local formula has no quantifier over messages
abbrev pub is_local : Formula → Bool
is_local True = true
is_local False = true
is_local (Eq a b) = is_local_term a && is_local_term b
is_local (Lt a b) = is_local_term a && is_local_term b
is_local (Le a b) = is_local_term a && is_local_term b
is_local (Not' _ (one_formula f end_formula)) = is_local f
is_local (And' _ (one_formula f end_formula) _ (one_formula g end_formula)) = is_local f && is_local g
is_local (Or' _ (one_formula f end_formula) _ (one_formula g end_formula)) = is_local f && is_local g
is_local (Implies' _ (one_formula f end_formula) _ (one_formula g end_formula)) = is_local f && is_local g
is_local (All' sym _ (one_formula body end_formula)) = is_local body
is_local (Exists' sym _ (one_formula body end_formula)) = is_local body
is_local (Each' msg label tag _ (one_formula body end_formula)) = false
is_local (Any' msg label tag _ (one_formula body end_formula)) = false

-- an expression reads variables alone, and a test besides binds none
abbrev pub IsExpression : List ℕ → Term → Type 0
IsExpression variables term = IsTerm (record { protocol = no_label; variables = variables; messages = [] }) term

abbrev pub IsTest : List ℕ → Formula → Type 0
IsTest variables f = IsFormula (record { protocol = no_label; variables = variables; messages = [] }) f × (bound_names f ≡ [])

abbrev pub IsIndex : (Term → Type 0) → Option Term → Type 0
IsIndex P (Some index) = P index
IsIndex P None = Unit {0}
