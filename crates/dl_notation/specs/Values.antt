-- The value of a first value, and the sorts that hold it.
use Rattle.std.specs.Prelude.{ℕ, suc, ℤ, pos, ◌+ℤ◌, ◌-ℤ◌, ◌*ℤ◌, int_le, Bool, false, not, ◌&&◌, List, [], ◌∷◌, Option, Some, None, unwrap_or, codes, if◌then◌else◌}
use Rattle.std.specs.List.{list_any}
use Rattle.std.specs.Ordering.{int_eq}
use Rattle.std.specs.Str.{bytes_eq}
use Rattle.dl_term.specs.declared.syntax.Sort.{Sort}
use Rattle.dl_tree.specs.declared.tree.Tree.{Tree}
use Rattle.dl_tree.specs.declared.tree.Tree.TheOpen.{Tree-F}
use Rattle.dl_tree.specs.declared.tree.Tree.TheOpen as layer
use Rattle.dl_tree.specs.declared.tree.Tree.TheFolds.{para-Tree}
use Rattle.dl_forms.specs.Context.{Text, look_up}
use Rattle.dl_forms.specs.Judge.{text_of}
use Rattle.dl_forms.specs.Width.{Words}
use Rattle.dl_notation.specs.Environment.{Environment}

abbrev pub Valuer : Type 0
Valuer = Words → ℤ

abbrev pub form_value : Text → List ℤ → ℤ
form_value word (a ∷ b ∷ []) =
    if bytes_eq word (codes "+") then a +ℤ b else if bytes_eq word (codes "-") then a -ℤ b else if bytes_eq word (codes "*") then a *ℤ b else pos 0
form_value word (a ∷ b ∷ x ∷ y ∷ []) = if bytes_eq word (codes "if") then (if int_eq a b then x else y) else pos 0
form_value _ _ = pos 0

abbrev pub values : Words → List (Tree × Valuer) → List ℤ
values words [] = []
values words (part ∷ parts) = part.1 words ∷ values words parts

abbrev pub layer_value : Tree-F (Tree × Valuer) → Valuer
layer_value (layer.Num v p) words = v
layer_value (layer.Sym name p) words = unwrap_or (look_up name words) (pos 0)
layer_value (layer.List [] p) words = pos 0
layer_value (layer.List (first ∷ parts) p) words = form_value (text_of first.0) (values words parts)

-- the value of a term that reads nothing, by the values of its names
unfoldable pub value : Tree → Words → ℤ
value = para-Tree Valuer layer_value

abbrev pub holds_value : Sort → ℤ → Bool
holds_value sort v = int_le sort.low v && int_le v sort.high

abbrev pub is_outside : Option Sort → ℤ → Bool
is_outside (Some sort) v = not (holds_value sort v)
is_outside None v = false

-- the values that `me` may have
abbrev pub node_values : ℕ → List Text → List ℤ
node_values i [] = []
node_values i (node ∷ nodes) = pos i ∷ node_values (suc i) nodes

-- at some node the first value of a field isn't in the field's sort
abbrev pub is_first_outside : Environment → Tree → Bool
is_first_outside env tree = list_any (λ me. is_outside env.sort (value tree ((codes "me", me) ∷ env.words))) (node_values 0 env.nodes)
