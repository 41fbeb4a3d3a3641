-- How large the value of a term may be, as its tree tells it.
use Rattle.std.specs.Prelude.{ℕ, ℤ, ◌+◌, ◌*◌, ◌^◌, max, nat_le, Bool, false, List, [], ◌∷◌, Option, Some, None, unsigned_abs}
use Rattle.dl_tree.specs.declared.tree.Tree.{Tree}
use Rattle.dl_tree.specs.declared.tree.Tree.TheOpen.{Tree-F}
use Rattle.dl_tree.specs.declared.tree.Tree.TheOpen as layer
use Rattle.dl_tree.specs.declared.tree.Tree.TheFolds.{para-Tree}
use Rattle.dl_forms.specs.declared.head.Head.{Head}
use Rattle.dl_forms.specs.declared.head.Head.TheVariants as head
use Rattle.dl_forms.specs.declared.position.Position.{Position}
use Rattle.dl_forms.specs.declared.position.Position.TheVariants.{Term}
use Rattle.dl_forms.specs.Form.{head_of}
use Rattle.dl_forms.specs.Context.{Text, look_up}

abbrev pub Words : Type 0
Words = List (Text × ℤ)

-- the size of what is stored, and of what a name that is no constant may stand for
abbrev pub stored : ℕ
stored = 2 ^ 63

abbrev pub word_width : Option ℤ → ℕ
word_width (Some v) = unsigned_abs v
word_width None = stored

abbrev pub form_width : Head → List ℕ → ℕ
form_width head.Add (a ∷ b ∷ []) = a + b
form_width head.Sub (a ∷ b ∷ []) = a + b
form_width head.Mul (a ∷ b ∷ []) = a * b
form_width head.If (a ∷ b ∷ x ∷ y ∷ []) = max x y
form_width _ _ = stored

abbrev pub widths : Words → List (Tree × (Words → ℕ)) → List ℕ
widths words [] = []
widths words (part ∷ parts) = part.1 words ∷ widths words parts

abbrev pub layer_width : Tree-F (Tree × (Words → ℕ)) → Words → ℕ
layer_width (layer.Num v p) words = unsigned_abs v
layer_width (layer.Sym name p) words = word_width (look_up name words)
layer_width (layer.List [] p) words = stored
layer_width (layer.List (first ∷ parts) p) words = form_width (head_of first.0) (widths words parts)

unfoldable pub width : Tree → Words → ℕ
width = para-Tree (Words → ℕ) layer_width

abbrev pub widths_of : Words → List Tree → List ℕ
widths_of words [] = []
widths_of words (part ∷ parts) = width part words ∷ widths_of words parts

-- a term that may pass 2 ^ 127 - 1
abbrev pub is_wide : Words → Position → Head → List Tree → Bool
is_wide words Term h parts = nat_le (2 ^ 127) (form_width h (widths_of words parts))
is_wide words _ h parts = false
