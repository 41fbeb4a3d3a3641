-- The names of a tree, and how a table grows by them.
use Rattle.std.proofs.Common.{◌≡◌, ℕ, ℤ, Bool, true, false, List, [], ◌∷◌, ◌++◌, Option, Some, None, length, map, refl, ap, sym, ◌∙◌, ◌≤◌, ◌<◌, ◌+◌, drop, get_or, drop-cons, add-one, arith, if◌then◌else◌, ◌⊎◌, inl, inr}
use Rattle.std.proofs.lemmas.List.{length-map, length-append}
use Rattle.std.proofs.Math.ListN.{drop_of_length-le}
use Rattle.std.specs.List.{list_any}
use Rattle.std.specs.Str.{bytes_eq}
use Rattle.dl_forms.specs.Table.{NameTable, with_name, numbered}
use Rattle.dl_tree.specs.declared.tree.Place.{Place}
use Rattle.dl_tree.specs.declared.tree.Tree.{Tree}
use Rattle.dl_tree.specs.declared.tree.Tree.TheOpen as layer
use Rattle.dl_tree.specs.declared.tree.Tree.TheVariants as tree
use Rattle.dl_tree.specs.declared.tree.Tree.TheFolds.{para-Tree, para-roll-Tree}
use Rattle.dl_forms.specs.declared.position.Position.{Position}
use Rattle.dl_forms.specs.Form.{head_of}
use Rattle.dl_forms.specs.Notation.{forms, form_with}
use Rattle.dl_forms.specs.Context.{Text}
use Rattle.dl_forms.proofs.NameLemmas.{split}
use Rattle.dl_forms.specs.Naming.{named, Namer, parts_names, form_names, layer_names, names_in, names_of_parts, names_of_form}

abbrev with_names : Tree → Tree × Namer
with_names tree = (tree, names_in tree)

parts_names-with_names : (qs : List Position) (parts : List Tree) → parts_names qs (map with_names parts) ≡ names_of_parts qs parts
parts_names-with_names [] parts = refl
parts_names-with_names (q ∷ qs) [] = refl
parts_names-with_names (q ∷ qs) (part ∷ parts) = ap (λ later. names_in part q ++ later) (parts_names-with_names qs parts)

form_names-with_names : (parts : List Tree) (form : Option (List Position)) → form_names (map with_names parts) form ≡ names_of_form parts form
form_names-with_names parts None = refl
form_names-with_names parts (Some form) = parts_names-with_names form parts

pub names_in-Num : (v : ℤ) (p : Place) (q : Position) → names_in (tree.Num v p) q ≡ []
unfolding names_in
names_in-Num v p q = ap (λ f. f q) (ap (para-Tree Namer layer_names) (sym (tree.rolls-Num v p)) ∙ para-roll-Tree Namer layer_names (layer.Num v p))

pub names_in-Sym : (name : Text) (p : Place) (q : Position) → names_in (tree.Sym name p) q ≡ (if named q then name ∷ [] else [])
unfolding names_in
names_in-Sym name p q = ap (λ f. f q) (ap (para-Tree Namer layer_names) (sym (tree.rolls-Sym name p)) ∙ para-roll-Tree Namer layer_names (layer.Sym name p))

names_of_nothing : (p : Place) (q : Position) → names_in (tree.List [] p) q ≡ []
unfolding names_in
names_of_nothing p q = ap (λ f. f q) (ap (para-Tree Namer layer_names) (sym (tree.rolls-List [] p)) ∙ para-roll-Tree Namer layer_names (layer.List [] p))

pub names_of_empty : (items : List Tree) (p : Place) (q : Position) → length items ≡ 0 → names_in (tree.List items p) q ≡ []
names_of_empty [] p q empty = names_of_nothing p q
names_of_empty (first ∷ parts) p q empty = absurd (omega (arith, empty))

pub names_in-List : (first : Tree) (parts : List Tree) (p : Place) (q : Position) →
    names_in (tree.List (first ∷ parts) p) q ≡ names_of_form parts (form_with (length parts) (forms q (head_of first)))
unfolding names_in
names_in-List first parts p q =
    ap (λ f. f q) (ap (para-Tree Namer layer_names) (sym (tree.rolls-List (first ∷ parts) p)) ∙ para-roll-Tree Namer layer_names (layer.List (first ∷ parts) p))
    ∙ ap (λ n. form_names (map with_names parts) (form_with n (forms q (head_of first)))) (length-map parts with_names)
    ∙ form_names-with_names parts (form_with (length parts) (forms q (head_of first)))

-- ---- tables

pub numbered-append : (names : NameTable) (xs ys : List Text) → numbered names (xs ++ ys) ≡ numbered (numbered names xs) ys
numbered-append names [] ys = refl
numbered-append names (x ∷ xs) ys = numbered-append (with_name names x) xs ys

-- the parts from the one at i on
names_of_parts-drop : (form : List Position) (parts : List Tree) (i : ℕ) (q : Position) (part : Tree) → i < length form → i < length parts → part ≡ get_or parts i part →
    names_of_parts (drop i form) (drop i parts) ≡ names_in part (get_or form i q) ++ names_of_parts (drop (i + 1) form) (drop (i + 1) parts)
names_of_parts-drop form parts i q part few few' is =
    let e : drop i form ≡ get_or form i q ∷ drop (i + 1) form = rw (add-one, drop-cons form i q few) refl in
    let e' : drop i parts ≡ part ∷ drop (i + 1) parts = rw (add-one, drop-cons parts i part few', ← is) refl in
    rw (e, e') refl

pub left_step : (names : NameTable) (form : List Position) (parts : List Tree) (i : ℕ) (q : Position) (part : Tree) → i < length form → i < length parts → part ≡ get_or parts i part →
    numbered (numbered names (names_in part (get_or form i q))) (names_of_parts (drop (i + 1) form) (drop (i + 1) parts)) ≡ numbered names (names_of_parts (drop i form) (drop i parts))
left_step names form parts i q part few few' is =
    sym (ap (numbered names) (names_of_parts-drop form parts i q part few few' is) ∙ numbered-append names (names_in part (get_or form i q)) (names_of_parts (drop (i + 1) form) (drop (i + 1) parts)))

pub no_parts : (form : List Position) (parts : List Tree) (i : ℕ) → length parts ≤ i → names_of_parts (drop i form) (drop i parts) ≡ []
no_parts form parts i h = rw (drop_of_length-le parts h) (none (drop i form))
  where
    none : (form : List Position) → names_of_parts form [] ≡ []
    none [] = refl
    none (q ∷ qs) = refl

pub no_form : (form : List Position) (parts : List Tree) (i : ℕ) → length form ≤ i → names_of_parts (drop i form) (drop i parts) ≡ []
no_form form parts i h = rw (drop_of_length-le form h) refl

pub ruleset trees = (names_in-Num, names_in-Sym, names_of_empty, names_in-List, left_step, no_parts, no_form)
