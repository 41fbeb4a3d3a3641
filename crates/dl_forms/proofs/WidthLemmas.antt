-- The width of a tree.
use Rattle.std.proofs.Common.{◌≡◌, ℕ, ℤ, suc, zero, List, [], ◌∷◌, refl, ap, sym, ◌∙◌, arith, length, min, ◌*◌, ◌<◌, ◌≤◌, ◌⊎◌, inl, inr, map}
use Rattle.std.specs.Prelude.{unsigned_abs}
use Rattle.std.proofs.Math.Nat.{mul-le-mul_left, mul_comm}
use Rattle.dl_tree.specs.declared.tree.Place.{Place}
use Rattle.dl_tree.specs.declared.tree.Tree.{Tree}
use Rattle.dl_tree.specs.declared.tree.Tree.TheOpen as layer
use Rattle.dl_tree.specs.declared.tree.Tree.TheVariants as tree
use Rattle.dl_tree.specs.declared.tree.Tree.TheFolds.{para-Tree, para-roll-Tree}
use Rattle.dl_forms.specs.Context.{Text, look_up}
use Rattle.dl_forms.specs.declared.head.Head.TheVariants as head
use Rattle.dl_forms.specs.Form.{head_of}
use Rattle.dl_forms.specs.Width.{Words, stored, word_width, form_width, widths, layer_width, width, widths_of}

abbrev with_width : Tree → Tree × (Words → ℕ)
with_width part = (part, width part)

widths-with_width : (words : Words) (parts : List Tree) → widths words (map with_width parts) ≡ widths_of words parts
widths-with_width words [] = refl
widths-with_width words (part ∷ parts) = ap (λ rest. width part words ∷ rest) (widths-with_width words parts)

pub width-Num : (v : ℤ) (p : Place) (words : Words) → width (tree.Num v p) words ≡ unsigned_abs v
unfolding width
width-Num v p words = ap (λ f. f words) (ap (para-Tree (Words → ℕ) layer_width) (sym (tree.rolls-Num v p)) ∙ para-roll-Tree (Words → ℕ) layer_width (layer.Num v p))

pub width-Sym : (name : Text) (p : Place) (words : Words) → width (tree.Sym name p) words ≡ word_width (look_up name words)
unfolding width
width-Sym name p words = ap (λ f. f words) (ap (para-Tree (Words → ℕ) layer_width) (sym (tree.rolls-Sym name p)) ∙ para-roll-Tree (Words → ℕ) layer_width (layer.Sym name p))

width_of_nothing : (p : Place) (words : Words) → width (tree.List [] p) words ≡ stored
unfolding width
width_of_nothing p words = ap (λ f. f words) (ap (para-Tree (Words → ℕ) layer_width) (sym (tree.rolls-List [] p)) ∙ para-roll-Tree (Words → ℕ) layer_width (layer.List [] p))

pub width_of_empty : (items : List Tree) (p : Place) (words : Words) → length items ≡ 0 → width (tree.List items p) words ≡ stored
width_of_empty [] p words empty = width_of_nothing p words
width_of_empty (first ∷ parts) p words empty = absurd (omega (arith, empty))

pub width-List : (first : Tree) (parts : List Tree) (p : Place) (words : Words) → width (tree.List (first ∷ parts) p) words ≡ form_width (head_of first) (widths_of words parts)
unfolding width
width-List first parts p words =
    ap (λ f. f words) (ap (para-Tree (Words → ℕ) layer_width) (sym (tree.rolls-List (first ∷ parts) p)) ∙ para-roll-Tree (Words → ℕ) layer_width (layer.List (first ∷ parts) p))
    ∙ ap (form_width (head_of first)) (widths-with_width words parts)

low_or_high : (a b : ℕ) → (a ≤ b) ⊎ (b < a)
low_or_high zero b = inl (omega arith)
low_or_high (suc a) zero = inr (omega arith)
low_or_high (suc a) (suc b) = elim (low_or_high a b) [ inl h ↦ inl (omega (arith, h)) | inr h ↦ inr (omega (arith, h)) ]

-- where a factor passes the limit
high_product : (limit a b m : ℕ) → 0 < limit → limit < a → (b ≡ 0 → m ≡ 0) × (0 < b → 0 < m) → min (limit * m) limit ≡ min (a * b) limit
high_product limit a zero m some high same = let e : m ≡ 0 = same.0 refl in rw e (omega arith)
high_product limit a (suc k) m some high same =
    let one : 0 < m = same.1 (omega arith) in
    let x : limit * 1 ≤ limit * m = mul-le-mul_left limit (omega (arith, one)) in
    let y : a * 1 ≤ a * suc k = mul-le-mul_left a (omega arith) in
    omega (arith, x, y)

-- a product of numbers that were cut off at a limit, cut off there
pub min-product : (a b limit : ℕ) → 0 < limit → min (min a limit * min b limit) limit ≡ min (a * b) limit
min-product a b limit some =
    elim (low_or_high a limit) [
      | inl low ↦ (elim (low_or_high b limit) [
        | inl low' ↦ (let e : min a limit ≡ a = omega arith in let f : min b limit ≡ b = omega arith in rw (e, f) refl)
        | inr high' ↦ (let e : min a limit ≡ a = omega arith in let f : min b limit ≡ limit = omega arith in
            rw (e, f) (ap (λ x. min x limit) (mul_comm a limit) ∙ high_product limit b a a some high' (λ e. e, λ h. h) ∙ ap (λ x. min x limit) (mul_comm b a)))
      ])
      | inr high ↦ (let e : min a limit ≡ limit = omega arith in rw e (high_product limit a b (min b limit) some high (λ e. omega (arith, e), λ h. omega (arith, h))))
    ]

pub width_of_other_sum : (words : Words) (parts : List Tree) → (length parts ≡ 2 → ⊥) → form_width head.Add (widths_of words parts) ≡ stored
width_of_other_sum words [] h = refl
width_of_other_sum words (a ∷ []) h = refl
width_of_other_sum words (a ∷ b ∷ []) h = absurd (h refl)
width_of_other_sum words (a ∷ b ∷ x ∷ parts) h = refl

pub width_of_other_difference : (words : Words) (parts : List Tree) → (length parts ≡ 2 → ⊥) → form_width head.Sub (widths_of words parts) ≡ stored
width_of_other_difference words [] h = refl
width_of_other_difference words (a ∷ []) h = refl
width_of_other_difference words (a ∷ b ∷ []) h = absurd (h refl)
width_of_other_difference words (a ∷ b ∷ x ∷ parts) h = refl

pub width_of_other_product : (words : Words) (parts : List Tree) → (length parts ≡ 2 → ⊥) → form_width head.Mul (widths_of words parts) ≡ stored
width_of_other_product words [] h = refl
width_of_other_product words (a ∷ []) h = refl
width_of_other_product words (a ∷ b ∷ []) h = absurd (h refl)
width_of_other_product words (a ∷ b ∷ x ∷ parts) h = refl

pub width_of_other_choice : (words : Words) (parts : List Tree) → (length parts ≡ 4 → ⊥) → form_width head.If (widths_of words parts) ≡ stored
width_of_other_choice words [] h = refl
width_of_other_choice words (a ∷ []) h = refl
width_of_other_choice words (a ∷ b ∷ []) h = refl
width_of_other_choice words (a ∷ b ∷ x ∷ []) h = refl
width_of_other_choice words (a ∷ b ∷ x ∷ y ∷ []) h = absurd (h refl)
width_of_other_choice words (a ∷ b ∷ x ∷ y ∷ z ∷ parts) h = refl

pub ruleset sizes = (min-product, width_of_other_sum, width_of_other_difference, width_of_other_product, width_of_other_choice, width-Num, width-Sym, width_of_empty, width-List)
