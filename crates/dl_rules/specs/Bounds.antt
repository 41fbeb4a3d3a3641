-- The same of the parts of a form. Only the crate's private clauses and its lemmas cite it.
use Rattle.std.specs.Prelude.{ℤ, List, [], ◌∷◌, ◌++◌}
use Rattle.dl_tree.specs.declared.tree.Tree.{Tree}
use Rattle.dl_forms.specs.declared.position.Position.{Position}
use Rattle.dl_forms.specs.Context.{Text}
use Rattle.dl_forms.specs.Width.{Words}
use Rattle.dl_notation.specs.Bound.{bound_in}
use Rattle.dl_notation.specs.Values.{value}

-- the names that the parts of a form bind
abbrev pub bound_in_parts : List Position → List Tree → List Text
bound_in_parts (q ∷ qs) (part ∷ parts) = bound_in part q ++ bound_in_parts qs parts
bound_in_parts _ _ = []

-- the values of the parts of a term
abbrev pub values_of : Words → List Tree → List ℤ
values_of words [] = []
values_of words (part ∷ parts) = value part words ∷ values_of words parts
