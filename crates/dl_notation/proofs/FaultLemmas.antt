-- The equations of faults.
use Rattle.std.proofs.Common.{◌≡◌, ℕ, zero, suc, ℤ, List, [], ◌∷◌, Option, Some, None, length, map, refl, ap, sym, ◌∙◌, ◌+◌, ◌<◌, ◌≤◌, drop, get_or, drop-cons, add-one, slice_get}
use Rattle.std.proofs.Math.ListN.{drop_of_length-le}
use Rattle.std.specs.Option.{option_map}
use Rattle.dl_tree.specs.declared.tree.Place.{Place}
use Rattle.dl_tree.specs.declared.tree.Tree.{Tree}
use Rattle.dl_tree.specs.declared.tree.Tree.TheOpen as layer
use Rattle.dl_tree.specs.declared.tree.Tree.TheVariants as tree
use Rattle.dl_tree.specs.declared.tree.Tree.TheFolds.{para-Tree, para-roll-Tree}
use Rattle.dl_forms.specs.Context.{Text}
use Rattle.dl_forms.specs.Judge.{text_of, ◌or_else◌}
use Rattle.dl_notation.specs.declared.role.Role.{Role}
use Rattle.dl_notation.specs.declared.role.ListRole.{ListRole}
use Rattle.dl_notation.specs.Notation.{Form}
use Rattle.dl_notation.specs.Trees.{laid_out}
use Rattle.dl_notation.specs.Judge.{Stage, Judge, inside, behind, parts_judge, laid_judge, layer_judge, list_fault}
use Rattle.dl_notation.specs.Parts.{part_fault, parts_fault, laid_fault, role_or, role_at}
use Rattle.dl_notation.proofs.TreeLemmas.{beside, over, trees-beside, laid_out-beside}

parts_judge-beside : (stage : Stage) (qs : List Role) (rest : Option Role) (parts : List Tree) → parts_judge stage qs rest (map (beside list_fault) parts) ≡ parts_fault stage qs rest parts
parts_judge-beside stage [] None parts = refl
parts_judge-beside stage [] (Some q) [] = refl
parts_judge-beside stage [] (Some q) (part ∷ parts) = ap (λ later. part_fault stage q part or_else later) (parts_judge-beside (behind stage q part) [] (Some q) parts)
parts_judge-beside stage (q ∷ qs) rest [] = refl
parts_judge-beside stage (q ∷ qs) rest (part ∷ parts) = ap (λ later. part_fault stage q part or_else later) (parts_judge-beside (behind stage q part) qs rest parts)

laid_judge-beside : (stage : Stage) (l : ListRole) (p : Place) (laid : Option (Form × Text × List Tree)) → laid_judge stage l p (option_map (over list_fault) laid) ≡ laid_fault stage l p laid
laid_judge-beside stage l p None = refl
laid_judge-beside stage l p (Some laid) = rw (trees-beside list_fault laid.2, parts_judge-beside (inside stage l laid.1) laid.0.fixed laid.0.rest laid.2) refl

pub list_fault-Num : (v : ℤ) (p : Place) (stage : Stage) (l : ListRole) → list_fault (tree.Num v p) stage l ≡ Some (10, p)
unfolding list_fault
list_fault-Num v p stage l = ap (λ f. f stage l) (ap (para-Tree Judge layer_judge) (sym (tree.rolls-Num v p)) ∙ para-roll-Tree Judge layer_judge (layer.Num v p))

pub list_fault-Sym : (name : Text) (p : Place) (stage : Stage) (l : ListRole) → list_fault (tree.Sym name p) stage l ≡ Some (10, p)
unfolding list_fault
list_fault-Sym name p stage l = ap (λ f. f stage l) (ap (para-Tree Judge layer_judge) (sym (tree.rolls-Sym name p)) ∙ para-roll-Tree Judge layer_judge (layer.Sym name p))

-- The fault of a list is that of its form.
pub list_fault-List : (items : List Tree) (p : Place) (stage : Stage) (l : ListRole) → list_fault (tree.List items p) stage l ≡ laid_fault stage l p (laid_out text_of l items)
unfolding list_fault
list_fault-List items p stage l =
    ap (λ f. f stage l) (ap (para-Tree Judge layer_judge) (sym (tree.rolls-List items p)) ∙ para-roll-Tree Judge layer_judge (layer.List items p))
    ∙ ap (laid_judge stage l p) (laid_out-beside list_fault l items)
    ∙ laid_judge-beside stage l p (laid_out text_of l items)

-- ---- the parts from the one at i on

pub drop-Some : {X : Type 0} (xs : List X) (i : ℕ) (x : X) → slice_get xs i ≡ Some x → drop i xs ≡ x ∷ drop (suc i) xs
drop-Some [] zero x h = cc
drop-Some [] (suc i) x h = cc
drop-Some (y ∷ xs) zero x h = cc
drop-Some (y ∷ xs) (suc i) x h = drop-Some xs i x h

pub drop-None : {X : Type 0} (xs : List X) (i : ℕ) → slice_get xs i ≡ None → (drop i xs ≡ []) × (drop (suc i) xs ≡ [])
drop-None [] zero h = (refl, refl)
drop-None [] (suc i) h = (refl, refl)
drop-None (y ∷ xs) zero h = cc
drop-None (y ∷ xs) (suc i) h = drop-None xs i h

-- the part at i, by what it has to be
parts_fault-at : (stage : Stage) (fixed : List Role) (rest : Option Role) (parts : List Tree) (i : ℕ) (q : Role) (part : Tree) (first : Option Role) →
    slice_get fixed i ≡ first → role_or first rest ≡ Some q → drop i parts ≡ part ∷ drop (suc i) parts →
    parts_fault stage (drop i fixed) rest (drop i parts) ≡ (part_fault stage q part or_else parts_fault (behind stage q part) (drop (suc i) fixed) rest (drop (suc i) parts))
parts_fault-at stage fixed rest parts i q part (Some r) at_i role there =
    let same : r ≡ q = cc in
    rw (drop-Some fixed i r at_i, there, same) refl
parts_fault-at stage fixed rest parts i q part None at_i role there =
    rw ((drop-None fixed i at_i).0, (drop-None fixed i at_i).1, there, role) refl

pub parts_fault-drop : (stage : Stage) (fixed : List Role) (rest : Option Role) (parts : List Tree) (i : ℕ) (q : Role) (part : Tree) →
    role_at fixed rest i ≡ Some q → i < length parts → part ≡ get_or parts i part →
    parts_fault stage (drop i fixed) rest (drop i parts) ≡ (part_fault stage q part or_else parts_fault (behind stage q part) (drop (i + 1) fixed) rest (drop (i + 1) parts))
parts_fault-drop stage fixed rest parts i q part role few is =
    let there : drop i parts ≡ part ∷ drop (suc i) parts = rw (drop-cons parts i part few, ← is) refl in
    rw add-one (parts_fault-at stage fixed rest parts i q part (slice_get fixed i) refl role there)

-- past the parts, and past the form
pub parts_fault-past : (stage : Stage) (fixed : List Role) (rest : Option Role) (parts : List Tree) (i : ℕ) → length parts ≤ i → parts_fault stage fixed rest (drop i parts) ≡ None
parts_fault-past stage fixed rest parts i h = rw (drop_of_length-le parts h) (none fixed rest)
  where
    none : (fixed : List Role) (rest : Option Role) → parts_fault stage fixed rest [] ≡ None
    none [] None = refl
    none [] (Some q) = refl
    none (q ∷ qs) rest = refl

pub no_role : (fixed : List Role) (rest : Option Role) (i : ℕ) (first : Option Role) → slice_get fixed i ≡ first → role_or first rest ≡ None → (drop i fixed ≡ []) × (rest ≡ None)
no_role fixed rest i (Some q) at_i none = cc
no_role fixed rest i None at_i none = ((drop-None fixed i at_i).0, none)

pub parts_fault-beyond : (stage : Stage) (fixed : List Role) (rest : Option Role) (parts : List Tree) (i : ℕ) → role_at fixed rest i ≡ None → parts_fault stage (drop i fixed) rest (drop i parts) ≡ None
parts_fault-beyond stage fixed rest parts i none =
    let past = no_role fixed rest i (slice_get fixed i) refl none in
    rw (past.0, past.1) refl

pub ruleset faults = (list_fault-Num, list_fault-Sym, list_fault-List, parts_fault-drop, parts_fault-beyond)
