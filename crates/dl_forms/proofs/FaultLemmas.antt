-- The equations of faults.
use Rattle.std.proofs.Common.{◌≡◌, ℕ, ℤ, List, [], ◌∷◌, Option, Some, None, length, map, refl, ap, sym, ◌∙◌, if◌then◌else◌}
use Rattle.dl_tree.specs.declared.tree.Place.{Place}
use Rattle.dl_tree.specs.declared.tree.Tree.{Tree, Num, Sym}
use Rattle.dl_tree.specs.declared.tree.Tree.TheOpen.{Tree-F}
use Rattle.dl_tree.specs.declared.tree.Tree.TheOpen as layer
use Rattle.dl_tree.specs.declared.tree.Tree.TheVariants as tree
use Rattle.dl_tree.specs.declared.tree.Tree.TheFolds.{para-Tree, para-roll-Tree}
use Rattle.dl_forms.specs.declared.position.Position.{Position}
use Rattle.std.proofs.Common.{◌+◌, ◌<◌, ◌≤◌, drop, get_or, drop-cons, add-one, arith}
use Rattle.std.proofs.lemmas.List.{length-map}
use Rattle.std.proofs.Math.ListN.{drop_of_length-le}
use Rattle.dl_forms.specs.declared.head.Head.{Head}
use Rattle.dl_forms.specs.Form.{head_of}
use Rattle.dl_forms.specs.Notation.{forms, form_with}
use Rattle.dl_forms.specs.Parts.{parts_fault, form_fault}
use Rattle.dl_forms.specs.Judge.{Stage, Judge, ◌or_else◌, at, fits_number, symbol_rule, behind, parts_judge, form_judge, layer_judge, fault}

abbrev with_fault : Tree → Tree × Judge
with_fault tree = (tree, fault tree)

trees-with_fault : (parts : List Tree) → map (λ (part : Tree × Judge). part.0) (map with_fault parts) ≡ parts
trees-with_fault [] = refl
trees-with_fault (part ∷ parts) = ap (λ rest. part ∷ rest) (trees-with_fault parts)

parts_judge-with_fault : (stage : Stage) (qs : List Position) (parts : List Tree) → parts_judge stage qs (map with_fault parts) ≡ parts_fault stage qs parts
parts_judge-with_fault stage [] parts = refl
parts_judge-with_fault stage (q ∷ qs) [] = refl
parts_judge-with_fault stage (q ∷ qs) (part ∷ parts) = ap (λ later. fault part stage q or_else later) (parts_judge-with_fault (behind stage q part) qs parts)

form_judge-with_fault : (stage : Stage) (q : Position) (p : Place) (h : Head) (parts : List Tree) (form : Option (List Position)) →
    form_judge stage q p h (map with_fault parts) form ≡ form_fault stage q p h parts form
form_judge-with_fault stage q p h parts None = refl
form_judge-with_fault stage q p h parts (Some form) = rw (trees-with_fault parts, parts_judge-with_fault stage form parts) refl

pub fault-Num : (v : ℤ) (p : Place) (stage : Stage) (q : Position) → fault (Num v p) stage q ≡ (if fits_number q v then None else Some (10, p))
unfolding fault
fault-Num v p stage q = ap (λ f. f stage q) (ap (para-Tree Judge layer_judge) (sym (tree.rolls-Num v p)) ∙ para-roll-Tree Judge layer_judge (layer.Num v p))

pub fault-Sym : (name : List ℕ) (p : Place) (stage : Stage) (q : Position) → fault (Sym name p) stage q ≡ at (symbol_rule stage q name) p
unfolding fault
fault-Sym name p stage q = ap (λ f. f stage q) (ap (para-Tree Judge layer_judge) (sym (tree.rolls-Sym name p)) ∙ para-roll-Tree Judge layer_judge (layer.Sym name p))

fault_of_nothing : (p : Place) (stage : Stage) (q : Position) → fault (tree.List [] p) stage q ≡ Some (10, p)
unfolding fault
fault_of_nothing p stage q = ap (λ f. f stage q) (ap (para-Tree Judge layer_judge) (sym (tree.rolls-List [] p)) ∙ para-roll-Tree Judge layer_judge (layer.List [] p))

pub fault_of_empty : (items : List Tree) (p : Place) (stage : Stage) (q : Position) → length items ≡ 0 → fault (tree.List items p) stage q ≡ Some (10, p)
fault_of_empty [] p stage q empty = fault_of_nothing p stage q
fault_of_empty (first ∷ parts) p stage q empty = absurd (omega (arith, empty))

-- The fault of a list is that of its form.
pub fault-List : (first : Tree) (parts : List Tree) (p : Place) (stage : Stage) (q : Position) →
    fault (tree.List (first ∷ parts) p) stage q ≡ form_fault stage q p (head_of first) parts (form_with (length parts) (forms q (head_of first)))
unfolding fault
fault-List first parts p stage q =
    ap (λ f. f stage q) (ap (para-Tree Judge layer_judge) (sym (tree.rolls-List (first ∷ parts) p)) ∙ para-roll-Tree Judge layer_judge (layer.List (first ∷ parts) p))
    ∙ ap (λ n. form_judge stage q p (head_of first) (map with_fault parts) (form_with n (forms q (head_of first)))) (length-map parts with_fault)
    ∙ form_judge-with_fault stage q p (head_of first) parts (form_with (length parts) (forms q (head_of first)))

-- The parts from the one at i on.
pub parts_fault-drop : (stage : Stage) (form : List Position) (parts : List Tree) (i : ℕ) (q : Position) (part : Tree) →
    i < length form → i < length parts → q ≡ get_or form i q → part ≡ get_or parts i part →
    parts_fault stage (drop i form) (drop i parts) ≡ (fault part stage q or_else parts_fault (behind stage q part) (drop (i + 1) form) (drop (i + 1) parts))
parts_fault-drop stage form parts i q part few few' q-is part-is =
    let e : drop i form ≡ q ∷ drop (i + 1) form = rw (add-one, drop-cons form i q, ← q-is) refl in
    let e' : drop i parts ≡ part ∷ drop (i + 1) parts = rw (add-one, drop-cons parts i part, ← part-is) refl in
    rw (e, e') refl

pub ruleset faults = (fault-Num, fault-Sym, fault_of_empty, fault-List, parts_fault-drop)

pub parts_fault-past : (stage : Stage) (form : List Position) (parts : List Tree) (i : ℕ) → length parts ≤ i → parts_fault stage form (drop i parts) ≡ None
parts_fault-past stage form parts i h = rw (drop_of_length-le parts h) (none form)
  where
    none : (form : List Position) → parts_fault stage form [] ≡ None
    none [] = refl
    none (q ∷ qs) = refl
