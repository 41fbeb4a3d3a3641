-- What stands in a tree.
use Rattle.std.specs.Prelude.{Bool, List, [], ◌∷◌, Option, Some, None, length, map}
use Rattle.std.specs.Str.{bytes_eq}
use Rattle.dl_tree.specs.declared.tree.Tree.{Tree}
use Rattle.dl_tree.specs.declared.tree.Tree.TheOpen.{Tree-F}
use Rattle.dl_tree.specs.declared.tree.Tree.TheOpen as layer
use Rattle.dl_tree.specs.declared.tree.Tree.TheFolds.{para-Tree}
use Rattle.dl_forms.specs.Context.{Text}
use Rattle.dl_forms.specs.Judge.{text_of}
use Rattle.dl_notation.specs.declared.role.ListRole.{ListRole}
use Rattle.dl_notation.specs.Notation.{Form, headless, headed, form_named, form_with}

-- the parts of a list
abbrev pub layer_parts : Tree-F (Tree × List Tree) → List Tree
layer_parts (layer.List parts p) = map (λ part. part.0) parts
layer_parts _ = []

unfoldable pub parts_of : Tree → List Tree
parts_of = para-Tree (List Tree) layer_parts

abbrev pub first_word : List Tree → Text
first_word [] = []
first_word (first ∷ parts) = text_of first

-- the list begins with the word
abbrev pub begins_with : Text → Tree → Bool
begins_with word tree = bytes_eq (first_word (parts_of tree)) word

-- A list by its form: the form, the word that it begins with, if any, and the parts behind it.
abbrev pub with_parts : {X : Type 0} → Text → List X → Option Form → Option (Form × Text × List X)
with_parts word parts (Some form) = Some (form, word, parts)
with_parts word parts None = None

abbrev pub headed_by : {X : Type 0} → (X → Text) → List (Text × Form) → List X → Option (Form × Text × List X)
headed_by text forms [] = None
headed_by text forms (first ∷ parts) = with_parts (text first) parts (form_named (text first) (length parts) forms)

abbrev pub laid_as : {X : Type 0} → (X → Text) → ListRole → List X → Option Form → Option (Form × Text × List X)
laid_as text role parts (Some form) = with_parts [] parts (form_with (length parts) form)
laid_as text role parts None = headed_by text (headed role) parts

abbrev pub laid_out : {X : Type 0} → (X → Text) → ListRole → List X → Option (Form × Text × List X)
laid_out text role parts = laid_as text role parts (headless role)
