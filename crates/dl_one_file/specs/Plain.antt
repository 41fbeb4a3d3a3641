-- Trees in which nothing stands for a name that isn't known.
use Rattle.std.specs.Prelude.{Bool, true, false, not, ◌&&◌, List, [], ◌∷◌, map, codes}
use Rattle.std.specs.List.{list_all, list_any}
use Rattle.std.specs.Str.{bytes_eq}
use Rattle.dl_tree.specs.declared.tree.Tree.{Tree, Num, Sym, List'}
use Rattle.dl_tree.specs.declared.tree.Tree.TheOpen.{Tree-F}
use Rattle.dl_tree.specs.declared.tree.Tree.TheOpen as layer
use Rattle.dl_tree.specs.declared.tree.Tree.TheFolds.{para-Tree}
use Rattle.dl_forms.specs.Context.{Text}
use Rattle.dl_forms.specs.Judge.{text_of}
use Rattle.dl_notation.specs.Trees.{parts_of}

abbrev pub has_text : Text → Bool
has_text [] = false
has_text (b ∷ bs) = true

abbrev pub is_list : Tree → Bool
is_list (Num v p) = false
is_list (Sym name p) = false
is_list (List' s row p) = true

-- The length of the soup of a label that is none: the word `int` stands for an unknown label, and no label has that name.
abbrev pub is_length_of_int : List Tree → Bool
is_length_of_int (word ∷ label ∷ []) = bytes_eq (text_of word) (codes "len") && bytes_eq (text_of label) (codes "int")
is_length_of_int _ = false

abbrev pub is_unknown : Tree → Bool
is_unknown tree = is_length_of_int (parts_of tree)

-- One of the parts is such a length. A list of arguments begins with a list: in it `(len int)` is an argument of the sort `int`.
abbrev pub has_unknown : List Tree → Bool
has_unknown [] = false
has_unknown (first ∷ parts) = not (is_list first) && list_any is_unknown parts

abbrev pub layer_plain : Tree-F (Tree × Bool) → Bool
layer_plain (layer.Num v p) = true
layer_plain (layer.Sym name p) = has_text name
layer_plain (layer.List parts p) = not (has_unknown (map (λ part. part.0) parts)) && list_all (λ part. part.1) parts

-- No symbol is empty, and no part of a form is the length of an unknown label.
unfoldable pub is_plain_tree : Tree → Bool
is_plain_tree = para-Tree Bool layer_plain
