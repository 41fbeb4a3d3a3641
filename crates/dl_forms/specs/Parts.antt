-- The first fault of the parts of a list. Only the crate's private clauses cite it.
use Rattle.std.specs.Prelude.{List, ◌∷◌, Option, Some, None}
use Rattle.dl_tree.specs.declared.tree.Place.{Place}
use Rattle.dl_tree.specs.declared.tree.Tree.{Tree}
use Rattle.dl_forms.specs.declared.head.Head.{Head}
use Rattle.dl_forms.specs.declared.position.Position.{Position}
use Rattle.dl_forms.specs.Judge.{Fault, Stage, ◌or_else◌, at, list_rule, behind, fault}

-- each part of a list after those before it
abbrev pub parts_fault : Stage → List Position → List Tree → Option Fault
parts_fault stage (q ∷ qs) (part ∷ parts) = fault part stage q or_else parts_fault (behind stage q part) qs parts
parts_fault stage _ _ = None

abbrev pub form_fault : Stage → Position → Place → Head → List Tree → Option (List Position) → Option Fault
form_fault stage q p h parts (Some form) = at (list_rule stage q h parts) p or_else parts_fault stage form parts
form_fault stage q p h parts None = Some (10, p)

abbrev pub of_form : Stage → Place → List Tree → Option (List Position) → Option Fault
of_form stage p parts (Some form) = parts_fault stage form parts
of_form stage p parts None = Some (10, p)
