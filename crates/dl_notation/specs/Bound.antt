-- The names that the quantifiers of a formula bind.
use Rattle.std.specs.Prelude.{Bool, true, false, List, [], ◌∷◌, length, if◌then◌else◌}
use Rattle.dl_tree.specs.declared.tree.Tree.{Tree}
use Rattle.dl_tree.specs.declared.tree.Tree.TheOpen.{Tree-F}
use Rattle.dl_tree.specs.declared.tree.Tree.TheOpen as layer
use Rattle.dl_tree.specs.declared.tree.Tree.TheFolds.{para-Tree}
use Rattle.dl_forms.specs.declared.position.Position.{Position}
use Rattle.dl_forms.specs.declared.position.Position.TheVariants.{Formula, NewVariable, NewMessage}
use Rattle.dl_forms.specs.Context.{Text}
use Rattle.dl_forms.specs.Form.{head_of}
use Rattle.dl_forms.specs.Naming.{Namer, form_names}
use Rattle.dl_forms.specs.Notation.{forms, form_with}

-- a quantifier binds the name in the position
abbrev pub is_binding : Position → Bool
is_binding NewVariable = true
is_binding NewMessage = true
is_binding _ = false

abbrev pub layer_bound : Tree-F (Tree × Namer) → Namer
layer_bound (layer.Num v p) q = []
layer_bound (layer.Sym name p) q = if is_binding q then name ∷ [] else []
layer_bound (layer.List [] p) q = []
layer_bound (layer.List (first ∷ parts) p) q = form_names parts (form_with (length parts) (forms q (head_of first.0)))

unfoldable pub bound_in : Tree → Position → List Text
bound_in = para-Tree Namer layer_bound

abbrev pub bound_in_formula : Tree → List Text
bound_in_formula tree = bound_in tree Formula
