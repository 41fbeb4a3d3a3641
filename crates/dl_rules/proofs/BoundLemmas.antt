-- The names that a formula binds, added one after another.
use Rattle.std.proofs.Common.{◌≡◌, ℕ, List, [], ◌∷◌, ◌++◌, Option, Some, None, length, refl, ap, sym, ◌∙◌, ◌≤◌, ◌<◌, ◌+◌, drop, get_or, drop-cons, add-one, arith}
use Rattle.std.proofs.Math.ListN.{drop_of_length-le}
use Rattle.dl_tree.specs.declared.tree.Place.{Place}
use Rattle.dl_tree.specs.declared.tree.Tree.{Tree}
use Rattle.dl_tree.specs.declared.tree.Tree.TheOpen as layer
use Rattle.dl_tree.specs.declared.tree.Tree.TheVariants as tree
use Rattle.dl_tree.specs.declared.tree.Tree.TheFolds.{para-Tree, para-roll-Tree}
use Rattle.dl_forms.specs.declared.position.Position.{Position}
use Rattle.dl_forms.specs.Context.{Text}
use Rattle.dl_forms.specs.Form.{head_of}
use Rattle.dl_forms.specs.Naming.{Namer}
use Rattle.dl_forms.specs.Notation.{forms, form_with}
use Rattle.dl_notation.specs.Behind.{with_text, with_texts}
use Rattle.dl_notation.specs.Bound.{layer_bound, bound_in}
use Rattle.dl_notation.proofs.BehindLemmas as laws
use Rattle.dl_notation.proofs.BehindLemmas.{bound_in-Num, bound_in-Sym, bound_in-List}
use Rattle.dl_rules.specs.Bounds.{bound_in_parts}

same_parts : (qs : List Position) (parts : List Tree) → laws.bound_in_parts qs parts ≡ bound_in_parts qs parts
same_parts [] parts = refl
same_parts (q ∷ qs) [] = refl
same_parts (q ∷ qs) (part ∷ parts) = ap (λ later. bound_in part q ++ later) (same_parts qs parts)

abbrev pub bound_in_form : List Tree → Option (List Position) → List Text
bound_in_form parts (Some form) = bound_in_parts form parts
bound_in_form parts None = []

same_form : (parts : List Tree) (form : Option (List Position)) → laws.bound_in_form parts form ≡ bound_in_form parts form
same_form parts None = refl
same_form parts (Some form) = same_parts form parts

bound_of_nothing : (p : Place) (q : Position) → bound_in (tree.List [] p) q ≡ []
unfolding bound_in
bound_of_nothing p q = ap (λ f. f q) (ap (para-Tree Namer layer_bound) (sym (tree.rolls-List [] p)) ∙ para-roll-Tree Namer layer_bound (layer.List [] p))

pub bound_of_empty : (items : List Tree) (p : Place) (q : Position) → length items ≡ 0 → bound_in (tree.List items p) q ≡ []
bound_of_empty [] p q empty = bound_of_nothing p q
bound_of_empty (first ∷ parts) p q empty = absurd (omega (arith, empty))

pub bound_of_list : (first : Tree) (parts : List Tree) (p : Place) (q : Position) →
    bound_in (tree.List (first ∷ parts) p) q ≡ bound_in_form parts (form_with (length parts) (forms q (head_of first)))
bound_of_list first parts p q = bound_in-List first parts p q ∙ same_form parts (form_with (length parts) (forms q (head_of first)))

pub with_texts-append : (texts xs ys : List Text) → with_texts texts (xs ++ ys) ≡ with_texts (with_texts texts xs) ys
with_texts-append texts [] ys = refl
with_texts-append texts (x ∷ xs) ys = with_texts-append (with_text texts x) xs ys

-- the parts from the one at i on
bound_in_parts-drop : (form : List Position) (parts : List Tree) (i : ℕ) (part : Tree) (q : Position) → i < length form → i < length parts → part ≡ get_or parts i part →
    bound_in_parts (drop i form) (drop i parts) ≡ bound_in part (get_or form i q) ++ bound_in_parts (drop (i + 1) form) (drop (i + 1) parts)
bound_in_parts-drop form parts i part q few few' is =
    let e : drop i form ≡ get_or form i q ∷ drop (i + 1) form = rw (add-one, drop-cons form i q few) refl in
    let e' : drop i parts ≡ part ∷ drop (i + 1) parts = rw (add-one, drop-cons parts i part few', ← is) refl in
    rw (e, e') refl

pub left_step : (texts : List Text) (form : List Position) (parts : List Tree) (i : ℕ) (q : Position) (part : Tree) → i < length form → i < length parts → part ≡ get_or parts i part →
    with_texts (with_texts texts (bound_in part (get_or form i q))) (bound_in_parts (drop (i + 1) form) (drop (i + 1) parts)) ≡ with_texts texts (bound_in_parts (drop i form) (drop i parts))
left_step texts form parts i q part few few' is =
    sym (ap (with_texts texts) (bound_in_parts-drop form parts i part q few few' is) ∙ with_texts-append texts (bound_in part (get_or form i q)) (bound_in_parts (drop (i + 1) form) (drop (i + 1) parts)))

pub no_parts : (form : List Position) (parts : List Tree) (i : ℕ) → length parts ≤ i → bound_in_parts (drop i form) (drop i parts) ≡ []
no_parts form parts i h = rw (drop_of_length-le parts h) (none (drop i form))
  where
    none : (form : List Position) → bound_in_parts form [] ≡ []
    none [] = refl
    none (q ∷ qs) = refl

pub no_form : (form : List Position) (parts : List Tree) (i : ℕ) → length form ≤ i → bound_in_parts (drop i form) (drop i parts) ≡ []
no_form form parts i h = rw (drop_of_length-le form h) refl

pub ruleset bounds = (bound_in-Num, bound_in-Sym, bound_of_empty, bound_of_list, left_step, no_parts, no_form)
