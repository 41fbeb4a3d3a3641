-- The first fault of a tree, by what it has to be.
use Rattle.std.specs.Prelude.{ℕ, ℤ, pos, Bool, true, false, not, ◌&&◌, ◌||◌, ◌==◌, List, [], ◌∷◌, Option, Some, None, if◌then◌else◌, codes, map}
use Rattle.std.specs.List.{list_any}
use Rattle.std.specs.Str.{bytes_eq}
use Rattle.dl_tree.specs.declared.tree.Place.{Place}
use Rattle.dl_tree.specs.TreePlace.{place_of}
use Rattle.dl_tree.specs.declared.tree.Tree.{Tree, Num, Sym, List'}
use Rattle.dl_tree.specs.declared.tree.Tree.TheOpen.{Tree-F}
use Rattle.dl_tree.specs.declared.tree.Tree.TheOpen as layer
use Rattle.dl_tree.specs.declared.tree.Tree.TheFolds.{para-Tree}
use Rattle.dl_forms.specs.declared.position.Position.TheVariants as position
use Rattle.dl_forms.specs.Context.{Text}
use Rattle.dl_forms.specs.Judge.{Fault, ◌or_else◌, at, rule_if, is_name, text_of, fault}
use Rattle.dl_forms.specs.Judge as inner
use Rattle.dl_notation.specs.declared.role.Role.{Role}
use Rattle.dl_notation.specs.declared.role.Role.TheVariants.{Number, Name, Constant, Way, Formula, Term}
use Rattle.dl_notation.specs.declared.role.Role.TheVariants as role
use Rattle.dl_notation.specs.declared.role.NumberRole.{NumberRole}
use Rattle.dl_notation.specs.declared.role.NumberRole.TheVariants as number
use Rattle.dl_notation.specs.declared.role.ListRole.{ListRole}
use Rattle.dl_notation.specs.declared.role.ListRole.TheVariants as list
use Rattle.dl_notation.specs.Notation.{Form}
use Rattle.dl_notation.specs.Trees.{begins_with, laid_out}
use Rattle.dl_notation.specs.Environment.{Environment, nothing}
use Rattle.dl_notation.specs.Behind.{entered, behind_part}
use Rattle.dl_notation.specs.Rules.{name_rule, number_rule, constant_rule, list_rule_of_names, formula_stage, term_stage, term_rule}

-- The stages: of forms, where the part that may stand once has stood, or hasn't, which is a deployment or a coherence; and of names and sorts,
-- by what stands before.
pub data Stage : Type 0 where
  OfForms : Bool → Stage
  OfNames : Environment → Stage

-- ---- atoms

abbrev pub fits_number : NumberRole → ℤ → Bool
fits_number number.Integer v = true
fits_number number.Point v = true
fits_number number.Version (pos k) = k == 1
fits_number number.Half (pos k) = (k == 1) || (k == 2)
fits_number _ v = false

abbrev pub number_fault : NumberRole → Tree → Option Fault
number_fault role (Num v p) = if fits_number role v then None else Some (10, p)
number_fault role (Sym name p) = Some (10, p)
number_fault role (List' s row p) = Some (10, p)

abbrev pub name_fault : Tree → Option Fault
name_fault (Sym name p) = if is_name name then None else Some (10, p)
name_fault (Num v p) = Some (10, p)
name_fault (List' s row p) = Some (10, p)

abbrev pub constant_fault : Tree → Option Fault
constant_fault (Num v p) = None
constant_fault (Sym name p) = if is_name name then None else Some (10, p)
constant_fault (List' s row p) = Some (10, p)

abbrev pub way_fault : Tree → Option Fault
way_fault (Sym name p) = if bytes_eq name (codes "send") || bytes_eq name (codes "receive") then None else Some (10, p)
way_fault (Num v p) = Some (10, p)
way_fault (List' s row p) = Some (10, p)

-- ---- lists

-- a file has a deployment among its items
abbrev pub lacks_deployment : List Tree → Bool
lacks_deployment (version ∷ nodes ∷ items) = not (list_any (begins_with (codes "deploy")) items)
lacks_deployment _ = true

-- the rule that a list breaks as a whole
abbrev pub list_rule : Stage → ListRole → Text → List Tree → Option ℕ
list_rule (OfForms stood) list.File word parts = rule_if 10 (lacks_deployment parts)
list_rule (OfForms stood) list.Item word parts = rule_if 10 (stood && bytes_eq word (codes "deploy"))
list_rule (OfForms stood) list.ProtocolPart word parts = rule_if 10 (stood && bytes_eq word (codes "coherence"))
list_rule (OfForms stood) _ word parts = None
list_rule (OfNames env) l word parts = list_rule_of_names env l word parts

-- the stage of a list's first part
abbrev pub inside : Stage → ListRole → Text → Stage
inside (OfForms stood) l word = OfForms false
inside (OfNames env) l word = OfNames (entered env l word)

-- the part is one that may stand once
abbrev pub stands_once : Role → Tree → Bool
stands_once (role.List list.Item) part = begins_with (codes "deploy") part
stands_once (role.List list.ProtocolPart) part = begins_with (codes "coherence") part
stands_once _ part = false

-- the stage behind a part
abbrev pub behind : Stage → Role → Tree → Stage
behind (OfForms stood) role part = OfForms (stood || stands_once role part)
behind (OfNames env) role part = OfNames (behind_part env role part)

-- ---- trees

abbrev pub Judge : Type 0
Judge = Stage → ListRole → Option Fault

abbrev pub part_judge : Stage → Role → Tree × Judge → Option Fault
part_judge stage Way part = way_fault part.0
part_judge stage (role.List l) part = part.1 stage l
part_judge (OfForms stood) (Number n) part = number_fault n part.0
part_judge (OfForms stood) (Name n) part = name_fault part.0
part_judge (OfForms stood) Constant part = constant_fault part.0
part_judge (OfForms stood) (Formula f) part = fault part.0 inner.OfForms position.Formula
part_judge (OfForms stood) (Term t) part = fault part.0 inner.OfForms position.Term
part_judge (OfNames env) (Number n) part = number_fault n part.0 or_else at (number_rule env n part.0) (place_of part.0)
part_judge (OfNames env) (Name n) part = name_fault part.0 or_else at (name_rule env n (text_of part.0)) (place_of part.0)
part_judge (OfNames env) Constant part = constant_fault part.0 or_else at (constant_rule env part.0) (place_of part.0)
part_judge (OfNames env) (Formula f) part = fault part.0 (formula_stage env f) position.Formula
part_judge (OfNames env) (Term t) part = fault part.0 (term_stage env t part.0) position.Term or_else at (term_rule env t part.0) (place_of part.0)

-- a list's parts, one after another
abbrev pub parts_judge : Stage → List Role → Option Role → List (Tree × Judge) → Option Fault
parts_judge stage (q ∷ qs) rest (part ∷ parts) = part_judge stage q part or_else parts_judge (behind stage q part.0) qs rest parts
parts_judge stage [] (Some q) (part ∷ parts) = part_judge stage q part or_else parts_judge (behind stage q part.0) [] (Some q) parts
parts_judge stage _ _ _ = None

abbrev pub laid_judge : Stage → ListRole → Place → Option (Form × Text × List (Tree × Judge)) → Option Fault
laid_judge stage l p (Some laid) = at (list_rule stage l laid.1 (map (λ part. part.0) laid.2)) p or_else parts_judge (inside stage l laid.1) laid.0.fixed laid.0.rest laid.2
laid_judge stage l p None = Some (10, p)

abbrev pub layer_judge : Tree-F (Tree × Judge) → Judge
layer_judge (layer.Num v p) stage l = Some (10, p)
layer_judge (layer.Sym name p) stage l = Some (10, p)
layer_judge (layer.List parts p) stage l = laid_judge stage l p (laid_out (λ part. text_of part.0) l parts)

-- The first fault of a list in a stage: that of the list as a whole comes before those of its parts.
unfoldable pub list_fault : Tree → Stage → ListRole → Option Fault
list_fault = para-Tree Judge layer_judge

-- The first fault of a file in these stages: faults of form come before those of names and sorts.
abbrev pub file_fault : Tree → Option Fault
file_fault tree = list_fault tree (OfForms false) list.File or_else list_fault tree (OfNames nothing) list.File
