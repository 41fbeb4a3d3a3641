-- The value of a first value.
use Rattle.std.proofs.Common.{◌≡◌, ℤ, List, [], ◌∷◌, Option, Some, None, length, refl, ap, sym, ◌∙◌, arith}
use Rattle.std.specs.Prelude.{pos, IfSome}
use Rattle.dl_tree.specs.declared.tree.Place.{Place}
use Rattle.dl_tree.specs.declared.tree.Tree.{Tree}
use Rattle.dl_tree.specs.declared.tree.Tree.TheOpen as layer
use Rattle.dl_tree.specs.declared.tree.Tree.TheVariants as tree
use Rattle.dl_tree.specs.declared.tree.Tree.TheFolds.{para-Tree, para-roll-Tree}
use Rattle.dl_forms.specs.Context.{Text}
use Rattle.dl_forms.specs.Judge.{text_of}
use Rattle.dl_forms.specs.Width.{Words}
use Rattle.dl_notation.specs.Values.{Valuer, form_value, layer_value, value}
use Rattle.dl_notation.proofs.BehindLemmas as laws
use Rattle.dl_notation.proofs.BehindLemmas.{value-Num, value-Sym, value-List}
use Rattle.dl_rules.specs.Bounds.{values_of}

same_values : (words : Words) (parts : List Tree) → laws.values_of words parts ≡ values_of words parts
same_values words [] = refl
same_values words (part ∷ parts) = ap (λ rest. value part words ∷ rest) (same_values words parts)

value_of_nothing : (p : Place) (words : Words) → value (tree.List [] p) words ≡ pos 0
unfolding value
value_of_nothing p words = ap (λ f. f words) (ap (para-Tree Valuer layer_value) (sym (tree.rolls-List [] p)) ∙ para-roll-Tree Valuer layer_value (layer.List [] p))

pub value_of_empty : (items : List Tree) (p : Place) (words : Words) → length items ≡ 0 → value (tree.List items p) words ≡ pos 0
value_of_empty [] p words empty = value_of_nothing p words
value_of_empty (first ∷ parts) p words empty = absurd (omega (arith, empty))

pub value_of_list : (first : Tree) (parts : List Tree) (p : Place) (words : Words) → value (tree.List (first ∷ parts) p) words ≡ form_value (text_of first) (values_of words parts)
value_of_list first parts p words = value-List first parts p words ∙ ap (form_value (text_of first)) (same_values words parts)

-- a list of neither two nor four parts has no value
pub value_of_others : (word : Text) (words : Words) (parts : List Tree) → (length parts ≡ 2 → ⊥) → (length parts ≡ 4 → ⊥) → form_value word (values_of words parts) ≡ pos 0
value_of_others word words [] h k = refl
value_of_others word words (a ∷ []) h k = refl
value_of_others word words (a ∷ b ∷ []) h k = absurd (h refl)
value_of_others word words (a ∷ b ∷ x ∷ []) h k = refl
value_of_others word words (a ∷ b ∷ x ∷ y ∷ []) h k = absurd (k refl)
value_of_others word words (a ∷ b ∷ x ∷ y ∷ z ∷ parts) h k = refl

-- a choice by the values of its parts
pub choice_values : (word : Text) (words : Words) (parts : List Tree) (a b x y : Tree) (l r u v : ℤ) → parts ≡ a ∷ b ∷ x ∷ y ∷ [] →
    l ≡ value a words → r ≡ value b words → u ≡ value x words → v ≡ value y words → form_value word (l ∷ r ∷ u ∷ v ∷ []) ≡ form_value word (values_of words parts)
choice_values word words parts a b x y l r u v whole el er eu ev =
    let same : (l ∷ r ∷ u ∷ v ∷ []) ≡ values_of words parts = rw (whole, el, er, eu, ev) refl in
    ap (form_value word) same

-- a value, where there is one, by equal terms
pub if_value : (found : Option ℤ) {x : ℤ} (y z : ℤ) → IfSome found (λ (v : ℤ). v ≡ x) → y ≡ z → x ≡ y → IfSome found (λ (v : ℤ). v ≡ z)
if_value None y z h e k = h
if_value (Some v) y z h e k = h ∙ k ∙ e

pub ruleset values = (value-Num, value-Sym, value_of_empty, value_of_list, value_of_others)
