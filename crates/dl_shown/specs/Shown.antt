-- The declarations of a file as it writes them: trees without places, in which a number that names something is its name and a sort is its range.
use Rattle.std.specs.Prelude.{ℕ, zero, suc, ◌+◌, if◌then◌else◌, List, [], ◌∷◌, ◌++◌, map, Option, Some, None, slice_get, option_and_then, codes}
use Rattle.dl_term.specs.declared.syntax.Sort.{Sort}
use Rattle.dl_term.specs.declared.syntax.Term.{Term}
use Rattle.dl_term.specs.declared.syntax.Formula.{Formula}
use Rattle.dl_tree.specs.declared.tree.Tree.{Tree}
use Rattle.dl_tree.specs.declared.tree.Tree.TheVariants as tree
use Rattle.dl_model.specs.declared.protocol.FieldDecl.{FieldDecl}
use Rattle.dl_model.specs.declared.protocol.Update.{Update}
use Rattle.dl_model.specs.declared.protocol.Transition.{Transition}
use Rattle.dl_model.specs.declared.protocol.Tag.{Tag}
use Rattle.dl_model.specs.declared.protocol.Protocol.{Protocol}
use Rattle.dl_model.specs.declared.protocol.Hook.{Hook}
use Rattle.dl_model.specs.declared.protocol.Instances.{Instances}
use Rattle.dl_model.specs.declared.program.Proc.{Proc}
use Rattle.dl_model.specs.declared.file.World.{World}
use Rattle.dl_model.specs.declared.file.Invariant.{Invariant}
use Rattle.dl_model.specs.declared.file.Program.{Program}
use Rattle.dl_model.specs.declared.file.Deploy.{Deploy}
use Rattle.dl_model.specs.declared.file.Decls.{Decls}
use Rattle.dl_model.specs.Lookup.{Parameter}
use Rattle.dl_model.specs.Scopes.{protocol_found}
use Rattle.dl_model.specs.Words.{first_name}
use Rattle.dl_forms.specs.declared.scope.SortDecl.{SortDecl}
use Rattle.dl_forms.specs.Table.{NameTable}
use Rattle.dl_forms.specs.Scope.{text_at}
use Rattle.dl_forms.specs.Show.{no_place, symbol, number, form, of_labels, shown_term, shown_formula}

-- a list that begins with no word
abbrev pub listed : List Tree → Tree
listed parts = tree.List parts no_place

-- what stands for nothing
abbrev pub nothing_there : Tree
nothing_there = symbol []

abbrev pub shown_if : {X : Type 0} → (X → Tree) → Option X → Tree
shown_if shown (Some x) = shown x
shown_if shown None = nothing_there

-- ---- names and sorts

abbrev pub name_of : NameTable → ℕ → Tree
name_of names sym = symbol (text_at names sym)

-- the name of what a number names
abbrev pub named : {X : Type 0} → NameTable → (X → ℕ) → Option X → Tree
named names sym found = shown_if (λ x. name_of names (sym x)) found

-- a sort in a sort's position
abbrev pub range_of : Sort → Tree
range_of sort = form (codes "range") (number sort.low ∷ number sort.high ∷ [])

-- a name with its sort
abbrev pub argument_of : NameTable → Parameter → Tree
argument_of names argument = listed (name_of names argument.0 ∷ range_of argument.1 ∷ [])

-- what a sort is declared as: enumerators where it has some, and else its range
abbrev pub body_of : NameTable → Sort → List ℕ → Tree
body_of names sort [] = range_of sort
body_of names sort (value ∷ values) = form (codes "enum") (map (name_of names) (value ∷ values))

abbrev pub sort_of : NameTable → SortDecl → Tree
sort_of names sort = form (codes "sort") (name_of names sort.sym ∷ body_of names sort.sort sort.values ∷ [])

-- the nodes: their names have the numbers from the first name of a file on
abbrev pub nodes_from : NameTable → ℕ → ℕ → List Tree
nodes_from names sym zero = []
nodes_from names sym (suc count) = name_of names sym ∷ nodes_from names (suc sym) count

-- the protocol of a label, and a tag and a field of a protocol
abbrev pub protocol_of_label : Instances → ℕ → Option Protocol
protocol_of_label inst label = protocol_found inst (slice_get inst.of label)

abbrev pub tag_in : Option Protocol → ℕ → Option Tag
tag_in protocol tag = option_and_then (λ (p : Protocol). slice_get p.tags tag) protocol

abbrev pub field_in : Option Protocol → ℕ → Option FieldDecl
field_in protocol field = option_and_then (λ (p : Protocol). slice_get p.fields field) protocol

module _ (names : NameTable) (decls : Decls) where
  abbrev pub label_of : ℕ → Tree
  label_of label = named names (λ sym. sym) (slice_get decls.labels label)

  abbrev pub protocol_name : Option Protocol → Tree
  protocol_name protocol = named names (λ (p : Protocol). p.sym) protocol

  abbrev pub tag_name : Option Tag → Tree
  tag_name tag = named names (λ (t : Tag). t.sym) tag

  abbrev pub field_name : Option FieldDecl → Tree
  field_name field = named names (λ (f : FieldDecl). f.sym) field

  -- terms and formulas, where `self` is the label of this protocol
  abbrev pub term_of : Option ℕ → Term → Tree
  term_of own term = shown_term names (of_labels own decls.labels) decls.inst term

  abbrev pub formula_of : Option ℕ → Formula → Tree
  formula_of own formula = shown_formula names (of_labels own decls.labels) decls.inst formula

  -- ---- protocols

  abbrev pub field_of : FieldDecl → Tree
  field_of field =
      form (if field.row then codes "row" else codes "field") (name_of names field.sym ∷ range_of field.sort ∷ term_of None field.first ∷ [])

  -- the new value of a field, or of a row at an index
  abbrev pub values_of : Option ℕ → Update → Option Term → List Tree
  values_of own update None = term_of own update.value ∷ []
  values_of own update (Some index) = term_of own index ∷ term_of own update.value ∷ []

  abbrev pub update_of : Option ℕ → List FieldDecl → Update → Tree
  update_of own fields update = form (codes "set") (field_name (slice_get fields update.field) ∷ values_of own update update.index)

  abbrev pub transition_of : List ℕ → Option ℕ → List FieldDecl → Transition → Tree
  transition_of word own fields transition = form word (formula_of own transition.guard ∷ map (update_of own fields) transition.updates)

  abbrev pub receive_of : Option ℕ → List FieldDecl → Option Transition → List Tree
  receive_of own fields (Some transition) = transition_of (codes "receive") own fields transition ∷ []
  receive_of own fields None = []

  abbrev pub tag_of : Option ℕ → List FieldDecl → Tag → Tree
  tag_of own fields tag =
      form (codes "tag") (name_of names tag.sym ∷ listed (map (argument_of names) tag.args) ∷ transition_of (codes "send") own fields tag.send ∷ receive_of own fields tag.receive)

  abbrev pub coherence_of : Option ℕ → Option Formula → List Tree
  coherence_of own (Some formula) = form (codes "coherence") (formula_of own formula ∷ []) ∷ []
  coherence_of own None = []

  -- fields and rows, then tags, then the coherence
  abbrev pub protocol_of : ℕ → Protocol → Tree
  protocol_of p protocol =
      form (codes "protocol") (name_of names protocol.sym ∷ map field_of protocol.fields ++ (map (tag_of (Some p) protocol.fields) protocol.tags ++ coherence_of (Some p) protocol.coherence))

  -- ---- labels, hooks, worlds, invariants

  abbrev pub instance_of : ℕ → Tree
  instance_of label = form (codes "label") (label_of label ∷ protocol_name (protocol_of_label decls.inst label) ∷ [])

  abbrev pub hook_of : Hook → Tree
  hook_of hook =
      form (codes "hook") (name_of names hook.sym ∷ label_of hook.core ∷ label_of hook.client ∷ tag_name (tag_in (protocol_of_label decls.inst hook.client) hook.tag) ∷ listed (map (name_of names) hook.args) ∷ formula_of None hook.formula ∷ [])

  abbrev pub hook_name : ℕ → Tree
  hook_name hook = named names (λ (h : Hook). h.sym) (slice_get decls.hooks hook)

  abbrev pub world_name : ℕ → Tree
  world_name world = named names (λ (w : World). w.sym) (slice_get decls.worlds world)

  -- the labels and the hooks, written out where the world is composed of two
  abbrev pub world_of : World → Tree
  world_of world = form (codes "world") (name_of names world.sym ∷ form (codes "labels") (map label_of world.labels) ∷ form (codes "hooks") (map hook_name world.hooks) ∷ [])

  abbrev pub invariant_of : Invariant → Tree
  invariant_of invariant = form (codes "invariant") (name_of names invariant.sym ∷ world_name invariant.world ∷ formula_of None invariant.formula ∷ [])

  -- ---- the deployment

  abbrev pub node_name : ℕ → Tree
  node_name node = name_of names (first_name + node)

  abbrev pub proc_name : ℕ → Tree
  proc_name proc = named names (λ (p : Proc). p.sym) (slice_get decls.procs proc)

  abbrev pub program_of : Program → Tree
  program_of program = listed (node_name program.node ∷ proc_name program.proc ∷ map number program.constants)

  abbrev pub deploy_of : Deploy → Tree
  deploy_of deploy = form (codes "deploy") (world_name deploy.world ∷ map program_of deploy.programs)
