-- Going past a part or a list that has no fault. Only the crate's private clauses and its lemmas cite it.
use Rattle.std.specs.Prelude.{◌≡◌, Bool, true, false, ◌&&◌, List, [], ◌∷◌, ◌++◌, Option, Some, None, unwrap_or}
use Rattle.std.specs.List.{list_all}
use Rattle.dl_tree.specs.declared.tree.Place.{Place}
use Rattle.dl_tree.specs.declared.tree.Tree.{Tree, Sym}
use Rattle.dl_forms.specs.Context.{Text}
use Rattle.dl_notation.specs.declared.role.Role.{Role}
use Rattle.dl_notation.specs.declared.role.Role.TheVariants as role
use Rattle.dl_notation.specs.declared.role.NameRole.TheVariants as name
use Rattle.dl_notation.specs.declared.role.ListRole.{ListRole}
use Rattle.dl_notation.specs.declared.role.ListRole.TheVariants as list
use Rattle.dl_notation.specs.Notation.{Form}
use Rattle.dl_notation.specs.Environment.{Environment, int_sort}
use Rattle.dl_notation.specs.Behind.{behind_part, list_behind, entered, left_behind, with_item, with_part, with_obligation}
use Rattle.dl_notation.specs.Judge.{OfNames, list_fault}
use Rattle.dl_notation.specs.Parts.{part_fault, parts_fault, parts_behind, laid_fault, laid_behind}
use Rattle.dl_scope.specs.declared.scope.Scope.{Scope}
use Rattle.dl_scope.specs.Walked.{reset}

abbrev pub is_symbol : Tree → Bool
is_symbol (Sym name p) = true
is_symbol _ = false

-- a part has no fault, and this stands behind it
pub record Passes (before : Environment) (q : Role) (tree : Tree) (after : Environment) : Type 0 where
  pub faultless : part_fault (OfNames before) q tree ≡ None
  pub behind : after ≡ behind_part before q tree

-- the same of a list
pub record PassesList (before : Environment) (l : ListRole) (tree : Tree) (after : Environment) : Type 0 where
  pub faultless : list_fault tree (OfNames before) l ≡ None
  pub behind : after ≡ list_behind tree l before

-- the same of the parts of a list
pub record PassesParts (before : Environment) (fixed : List Role) (rest : Option Role) (parts : List Tree) (after : Environment) : Type 0 where
  pub faultless : parts_fault (OfNames before) fixed rest parts ≡ None
  pub behind : after ≡ parts_behind fixed rest parts before

-- the same of a list of this form, whose parts stand behind the word
pub record PassesForm (before : Environment) (l : ListRole) (word : Text) (fixed : List Role) (rest : Option Role) (parts : List Tree) (after : Environment) : Type 0 where
  pub faultless : parts_fault (OfNames (entered before l word)) fixed rest parts ≡ None
  pub behind : after ≡ left_behind before (parts_behind fixed rest parts (entered before l word)) l word parts

-- a list of this form, with the parts behind its word
abbrev pub laid : Text → List Role → Option Role → List Tree → Option (Form × Text × List Tree)
laid word fixed rest parts = Some (record { fixed = fixed; rest = rest }, word, parts)

-- a list by its form, where it has one
pub record PassesLaid (before : Environment) (l : ListRole) (place : Place) (form : Option (Form × Text × List Tree)) (after : Environment) : Type 0 where
  pub faultless : laid_fault (OfNames before) l place form ≡ None
  pub behind : after ≡ laid_behind l form before

-- behind a list whose names stay
abbrev pub left_open : ListRole → Environment → Environment
left_open list.Parameter inside = record inside { parameters = inside.parameters ++ unwrap_or inside.sort int_sort ∷ [] }
left_open _ inside = inside

-- behind a list whose names fall away, by what stood at its end and what the item had named before it
abbrev pub left_by : ListRole → Text → List Tree → Environment → Scope → Environment
left_by list.Item word parts inside scope = reset (with_item inside word parts) scope
left_by list.ProtocolPart word parts inside scope = record (reset inside scope) { own = with_part scope.own word parts }
left_by list.Script word parts inside scope = record (reset inside scope) { hypotheses = scope.hypotheses ++ scope.pending; pending = [] }
left_by list.Obligation word parts inside scope = with_obligation (reset inside scope) word parts
left_by _ word parts inside scope = reset inside scope

-- what a list of this kind names for itself falls away behind it
abbrev pub is_closed : ListRole → Bool
is_closed list.Item = true
is_closed list.ProtocolPart = true
is_closed list.Send = true
is_closed list.Receive = true
is_closed list.Command = true
is_closed list.Obligation = true
is_closed list.Script = true
is_closed _ = false

-- a part that changes nothing but what the item has named
abbrev pub is_quiet : Role → Bool
is_quiet (role.Name name.Claimed) = true
is_quiet (role.Name name.Protocol) = true
is_quiet (role.Name name.ProtocolTag) = true
is_quiet (role.Name name.Invariant) = true
is_quiet (role.Name name.Label) = true
is_quiet (role.Name name.StepTag) = true
is_quiet (role.Name name.Procedure) = true
is_quiet (role.Name name.Node) = true
is_quiet (role.Number n) = true
is_quiet role.Way = true
is_quiet _ = false

abbrev pub has_no_rest : Option Role → Bool
has_no_rest None = true
has_no_rest _ = false

-- an obligation has such parts alone
abbrev pub is_quiet_form : ListRole → List Role → Option Role → Bool
is_quiet_form list.Obligation fixed rest = list_all is_quiet fixed && has_no_rest rest
is_quiet_form _ fixed rest = true
