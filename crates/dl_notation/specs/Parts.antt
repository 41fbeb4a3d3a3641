-- The first fault of the parts of a list, and what stands behind them. Only the crate's private clauses and its lemmas cite it.
use Rattle.std.specs.Prelude.{ℕ, List, [], ◌∷◌, Option, Some, None, slice_get}
use Rattle.dl_tree.specs.declared.tree.Place.{Place}
use Rattle.dl_tree.specs.declared.tree.Tree.{Tree}
use Rattle.dl_forms.specs.Context.{Text}
use Rattle.dl_forms.specs.Judge.{Fault, ◌or_else◌, at}
use Rattle.dl_notation.specs.declared.role.Role.{Role}
use Rattle.dl_notation.specs.declared.role.ListRole.{ListRole}
use Rattle.dl_notation.specs.Notation.{Form}
use Rattle.dl_notation.specs.Environment.{Environment}
use Rattle.dl_notation.specs.Behind.{behind_part, entered, left_behind}
use Rattle.dl_notation.specs.Judge.{Stage, inside, behind, list_rule, part_judge, list_fault}

abbrev pub part_fault : Stage → Role → Tree → Option Fault
part_fault stage q part = part_judge stage q (part, list_fault part)

-- each part of a list after those before it
abbrev pub parts_fault : Stage → List Role → Option Role → List Tree → Option Fault
parts_fault stage (q ∷ qs) rest (part ∷ parts) = part_fault stage q part or_else parts_fault (behind stage q part) qs rest parts
parts_fault stage [] (Some q) (part ∷ parts) = part_fault stage q part or_else parts_fault (behind stage q part) [] (Some q) parts
parts_fault stage _ _ _ = None

abbrev pub laid_fault : Stage → ListRole → Place → Option (Form × Text × List Tree) → Option Fault
laid_fault stage l p (Some laid) = at (list_rule stage l laid.1 laid.2) p or_else parts_fault (inside stage l laid.1) laid.0.fixed laid.0.rest laid.2
laid_fault stage l p None = Some (10, p)

-- what stands behind the parts of a list
abbrev pub parts_behind : List Role → Option Role → List Tree → Environment → Environment
parts_behind (q ∷ qs) rest (part ∷ parts) env = parts_behind qs rest parts (behind_part env q part)
parts_behind [] (Some q) (part ∷ parts) env = parts_behind [] (Some q) parts (behind_part env q part)
parts_behind _ _ _ env = env

abbrev pub laid_behind : ListRole → Option (Form × Text × List Tree) → Environment → Environment
laid_behind l (Some laid) env = left_behind env (parts_behind laid.0.fixed laid.0.rest laid.2 (entered env l laid.1)) l laid.1 laid.2
laid_behind l None env = env

-- what the part with this number has to be
abbrev pub role_or : Option Role → Option Role → Option Role
role_or (Some q) rest = Some q
role_or None rest = rest

abbrev pub role_at : List Role → Option Role → ℕ → Option Role
role_at fixed rest i = role_or (slice_get fixed i) rest
