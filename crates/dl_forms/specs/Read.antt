-- What a reader answers. The crate's private clauses speak of parts of a term.
use Rattle.std.specs.Prelude.{is_some, true, pos, ◌≡◌, ℕ, ◌≤◌, List, [], ◌∷◌, map, length, Option, Some, None, All}
use Rattle.std.specs.Option.{option_map}
use Rattle.dl_tree.specs.declared.tree.Tree.{Tree}
use Rattle.dl_term.specs.declared.syntax.Lab.{Lab}
use Rattle.dl_term.specs.declared.syntax.Term.{Term}
use Rattle.dl_term.specs.declared.syntax.Formula.{Formula}
use Rattle.dl_forms.specs.declared.fault.FormFault.{FormFault}
use Rattle.dl_forms.specs.declared.fault.FormFault.TheVariants.{At, Memory}
use Rattle.dl_forms.specs.Table.{NameTable as Names}
use Rattle.dl_forms.specs.declared.scope.Scope.{Scope}
use Rattle.dl_model.specs.declared.protocol.Instances.{Instances}
use Rattle.dl_model.specs.declared.protocol.Protocol.{Protocol}
use Rattle.dl_model.specs.declared.protocol.FieldDecl.{FieldDecl}
use Rattle.dl_forms.specs.Context.{Text, look_up}
use Rattle.dl_forms.specs.Scope.{labels_of, Binding, OfVariable, OfMessage}
use Rattle.dl_forms.specs.declared.position.Position.TheVariants as position
use Rattle.dl_forms.specs.Scope.{context_of, messages, text_at}
use Rattle.dl_forms.specs.Judge.{row_at, Fault, Stage, OfNames, fault, text_of, protocol_named}
use Rattle.dl_forms.specs.Show.{symbol, bare, form, shown_term, shown_formula, number, label, field, tag, name, protocol_of, field_at, tag_at}
use Rattle.dl_tree.specs.declared.tree.Place.{Place}
use Rattle.dl_forms.specs.declared.head.Head.{Head}
use Rattle.dl_forms.specs.Notation.{term_forms, formula_forms, form_with}
use Rattle.dl_forms.specs.Parts.{form_fault, of_form}
use Rattle.dl_forms.specs.Word.{word_of}
use Rattle.dl_forms.specs.Known.{IsKnown, IsKnownThere, Has}

-- a refusal is this fault, or want of memory
abbrev pub IsFault : Option Fault → FormFault → Type 0
IsFault first Memory = Unit {0}
IsFault first (At rule place) = first ≡ Some (rule, place)

-- there are few enough labels, fields and tags
pub record IsFormed (scope : Scope) (inst : Instances) : Type 0 where
  pub labels : length scope.labels ≡ length inst.of
  pub few_labels : length scope.labels ≤ 16
  pub few_fields : All (λ (p : Protocol). length p.fields ≤ 16) inst.protocols
  pub few_tags : All (λ (p : Protocol). length p.tags ≤ 16) inst.protocols

-- what a label's name stands for
pub record IsLabel (names : Names) (scope : Scope) (inst : Instances) (text : Text) (lab : Lab) : Type 0 where
  pub shown : label names scope inst lab ≡ symbol text
  pub protocol : look_up text (labels_of names scope inst) ≡ protocol_of names scope inst lab
  pub exists : is_some (protocol_of names scope inst lab) ≡ true

module _ (names : Names) (scope : Scope) (inst : Instances) (bound : List Binding) where
  abbrev pub names_stage : Stage
  names_stage = OfNames (context_of names scope inst bound)

  -- the stage behind a label
  abbrev pub label_stage : Option ℕ → Stage
  label_stage protocol = OfNames (record (context_of names scope inst bound) { label_before = protocol })

  pub record ReadsLabel (tree : Tree) (lab : Lab) : Type 0 where
    pub sound : fault tree names_stage position.Label ≡ None
    pub shown : bare tree ≡ label names scope inst lab
    pub protocol : protocol_named (context_of names scope inst bound) tree ≡ protocol_of names scope inst lab
    pub exists : is_some (protocol_of names scope inst lab) ≡ true

  pub record ReadsField (lab : Lab) (tree : Tree) (f : ℕ) : Type 0 where
    pub sound : fault tree (label_stage (protocol_of names scope inst lab)) position.Field ≡ None
    pub shown : bare tree ≡ field names scope inst lab f
    pub row : (label : Tree) → protocol_named (context_of names scope inst bound) label ≡ protocol_of names scope inst lab →
        row_at (context_of names scope inst bound) label tree ≡ option_map (λ (d : FieldDecl). d.row) (field_at names scope inst lab f)
    pub exists : is_some (field_at names scope inst lab f) ≡ true

  pub record ReadsTag (lab : Lab) (tree : Tree) (t : ℕ) : Type 0 where
    pub sound : fault tree (label_stage (protocol_of names scope inst lab)) position.Tag ≡ None
    pub shown : bare tree ≡ tag names scope inst lab t
    pub exists : is_some (tag_at names scope inst lab t) ≡ true

  -- the number of an argument
  pub record ReadsArgument (tree : Tree) (k : ℕ) : Type 0 where
    pub sound : fault tree names_stage position.Argument ≡ None
    pub shown : bare tree ≡ number (pos k)
    pub small : k ≤ 7

  pub record ReadsMessage (tree : Tree) (m : ℕ) : Type 0 where
    pub sound : fault tree names_stage position.Message ≡ None
    pub shown : bare tree ≡ name names scope inst m
    pub known : Has (messages scope bound) m

  pub record ReadsTerm (tree : Tree) (term : Term) : Type 0 where
    pub sound : fault tree names_stage position.Term ≡ None
    pub shown : bare tree ≡ shown_term names scope inst term
    pub known : IsKnown names scope inst bound term

  -- the parts behind a head are those of this term
  pub record ReadsForm (p : Place) (h : Head) (parts : List Tree) (term : Term) : Type 0 where
    pub sound : form_fault names_stage position.Term p h parts (form_with (length parts) (term_forms h)) ≡ None
    pub shown : form (word_of h) (map bare parts) ≡ shown_term names scope inst term
    pub known : IsKnown names scope inst bound term

  abbrev pub list_fault : Place → Head → List Tree → Option Fault
  list_fault p h parts = form_fault names_stage position.Term p h parts (form_with (length parts) (term_forms h))

  -- two terms
  pub record ReadsPair (parts : List Tree) (left right : Term) : Type 0 where
    pub first : Tree
    pub second : Tree
    pub whole : parts ≡ first ∷ second ∷ []
    pub reads_first : ReadsTerm first left
    pub reads_second : ReadsTerm second right

  abbrev pub pair_fault : Place → List Tree → Option Fault
  pair_fault p parts = of_form names_stage p parts (form_with (length parts) ((position.Term ∷ position.Term ∷ []) ∷ []))

  pub record ReadsFormula (tree : Tree) (formula : Formula) : Type 0 where
    pub sound : fault tree names_stage position.Formula ≡ None
    pub shown : bare tree ≡ shown_formula names scope inst formula
    pub known : IsKnownThere names scope inst bound formula

  abbrev pub list_formula_fault : Place → Head → List Tree → Option Fault
  list_formula_fault p h parts = form_fault names_stage position.Formula p h parts (form_with (length parts) (formula_forms h))

  pub record ReadsFormulaForm (p : Place) (h : Head) (parts : List Tree) (formula : Formula) : Type 0 where
    pub sound : list_formula_fault p h parts ≡ None
    pub shown : form (word_of h) (map bare parts) ≡ shown_formula names scope inst formula
    pub known : IsKnownThere names scope inst bound formula

  -- two formulas
  pub record ReadsFormulas (parts : List Tree) (left right : Formula) : Type 0 where
    pub first : Tree
    pub second : Tree
    pub whole : parts ≡ first ∷ second ∷ []
    pub reads_first : ReadsFormula first left
    pub reads_second : ReadsFormula second right

  abbrev pub formulas_fault : Place → List Tree → Option Fault
  formulas_fault p parts = of_form names_stage p parts (form_with (length parts) ((position.Formula ∷ position.Formula ∷ []) ∷ []))

  -- a name for a new variable
  pub record BindsVariable (tree : Tree) (sym : ℕ) : Type 0 where
    pub sound : fault tree names_stage position.NewVariable ≡ None
    pub shown : bare tree ≡ name names scope inst sym
    pub text : text_of tree ≡ text_at names sym

  -- a name for a new message
  pub record BindsMessage (tree : Tree) (sym : ℕ) : Type 0 where
    pub sound : fault tree names_stage position.NewMessage ≡ None
    pub shown : bare tree ≡ name names scope inst sym
    pub text : text_of tree ≡ text_at names sym

  -- the parts of a quantifier over messages, and over nodes
  abbrev pub messages_fault : Place → List Tree → Option Fault
  messages_fault p parts = of_form names_stage p parts (form_with (length parts) ((position.NewMessage ∷ position.Label ∷ position.Tag ∷ position.Formula ∷ []) ∷ []))

  abbrev pub quantified_fault : Place → List Tree → Option Fault
  quantified_fault p parts = of_form names_stage p parts (form_with (length parts) ((position.NewVariable ∷ position.Formula ∷ []) ∷ []))

-- a variable, and a formula in which it is bound
pub record ReadsQuantified (names : Names) (scope : Scope) (inst : Instances) (bound : List Binding) (parts : List Tree) (sym : ℕ) (body : Formula) : Type 0 where
  pub first : Tree
  pub second : Tree
  pub whole : parts ≡ first ∷ second ∷ []
  pub binds : BindsVariable names scope inst bound first sym
  pub reads : ReadsFormula names scope inst (OfVariable sym ∷ bound) second body

-- a message of a label's tag, and a formula in which it is bound
pub record ReadsOverMessages (names : Names) (scope : Scope) (inst : Instances) (bound : List Binding) (parts : List Tree) (msg : ℕ) (lab : Lab) (t : ℕ) (body : Formula) : Type 0 where
  pub first : Tree
  pub second : Tree
  pub third : Tree
  pub fourth : Tree
  pub whole : parts ≡ first ∷ second ∷ third ∷ fourth ∷ []
  pub binds : BindsMessage names scope inst bound first msg
  pub reads_label : ReadsLabel names scope inst (OfMessage msg ∷ bound) second lab
  pub reads_tag : ReadsTag names scope inst (OfMessage msg ∷ bound) lab third t
  pub reads : ReadsFormula names scope inst (OfMessage msg ∷ bound) fourth body

-- the tree is the formula's, places aside, and each name in it stands for what it stands for in the formula
pub record Means (names : Names) (scope : Scope) (inst : Instances) (tree : Tree) (formula : Formula) : Type 0 where
  pub shown : bare tree ≡ shown_formula names scope inst formula
  pub known : IsKnownThere names scope inst [] formula

pub record MeansTerm (names : Names) (scope : Scope) (inst : Instances) (tree : Tree) (term : Term) : Type 0 where
  pub shown : bare tree ≡ shown_term names scope inst term
  pub known : IsKnown names scope inst [] term
