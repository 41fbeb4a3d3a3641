-- The names of a tree, in the order in which they stand.
use Rattle.std.specs.Prelude.{ℕ, Bool, true, false, List, [], ◌∷◌, ◌++◌, Option, Some, None, length, if◌then◌else◌}
use Rattle.dl_tree.specs.declared.tree.Tree.{Tree}
use Rattle.dl_tree.specs.declared.tree.Tree.TheOpen.{Tree-F}
use Rattle.dl_tree.specs.declared.tree.Tree.TheOpen as layer
use Rattle.dl_tree.specs.declared.tree.Tree.TheFolds.{para-Tree}
use Rattle.dl_forms.specs.declared.position.Position.{Position}
use Rattle.dl_forms.specs.declared.position.Position.TheVariants.{Formula, Argument}
use Rattle.dl_forms.specs.Form.{head_of}
use Rattle.dl_forms.specs.Notation.{forms, form_with}
use Rattle.dl_forms.specs.Context.{Text}

-- a symbol in the position is a name
abbrev pub named : Position → Bool
named Formula = false
named Argument = false
named _ = true

abbrev pub Namer : Type 0
Namer = Position → List Text

abbrev pub parts_names : List Position → List (Tree × Namer) → List Text
parts_names (q ∷ qs) (part ∷ parts) = part.1 q ++ parts_names qs parts
parts_names _ _ = []

abbrev pub form_names : List (Tree × Namer) → Option (List Position) → List Text
form_names parts (Some form) = parts_names form parts
form_names parts None = []

abbrev pub layer_names : Tree-F (Tree × Namer) → Namer
layer_names (layer.Num v p) q = []
layer_names (layer.Sym name p) q = if named q then name ∷ [] else []
layer_names (layer.List [] p) q = []
layer_names (layer.List (first ∷ parts) p) q = form_names parts (form_with (length parts) (forms q (head_of first.0)))

-- the names of a tree in a position, as often as they stand there; heads are none
unfoldable pub names_in : Tree → Position → List Text
names_in = para-Tree Namer layer_names

-- the same of the parts of a form
abbrev pub names_of_parts : List Position → List Tree → List Text
names_of_parts (q ∷ qs) (part ∷ parts) = names_in part q ++ names_of_parts qs parts
names_of_parts _ _ = []

abbrev pub names_of_form : List Tree → Option (List Position) → List Text
names_of_form parts (Some form) = names_of_parts form parts
names_of_form parts None = []
