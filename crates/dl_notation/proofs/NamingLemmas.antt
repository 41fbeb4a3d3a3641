-- The names of a tree, and how a table grows by them.
use Rattle.std.proofs.Common.{◌≡◌, ℕ, suc, ℤ, List, [], ◌∷◌, ◌++◌, Option, Some, None, length, map, refl, ap, sym, ◌∙◌, ◌≤◌, ◌<◌, ◌+◌, drop, get_or, drop-cons, add-one, slice_get}
use Rattle.std.proofs.Math.ListN.{drop_of_length-le}
use Rattle.std.specs.Option.{option_map}
use Rattle.dl_tree.specs.declared.tree.Place.{Place}
use Rattle.dl_tree.specs.declared.tree.Tree.{Tree}
use Rattle.dl_tree.specs.declared.tree.Tree.TheOpen as layer
use Rattle.dl_tree.specs.declared.tree.Tree.TheVariants as tree
use Rattle.dl_tree.specs.declared.tree.Tree.TheFolds.{para-Tree, para-roll-Tree}
use Rattle.dl_forms.specs.Context.{Text}
use Rattle.dl_forms.specs.Judge.{text_of}
use Rattle.dl_forms.specs.Table.{NameTable, numbered}
use Rattle.dl_notation.specs.declared.role.Role.{Role}
use Rattle.dl_notation.specs.declared.role.ListRole.{ListRole}
use Rattle.dl_notation.specs.Notation.{Form}
use Rattle.dl_notation.specs.Trees.{laid_out}
use Rattle.dl_notation.specs.Parts.{role_or, role_at}
use Rattle.dl_notation.specs.Naming.{Namer, parts_namer, laid_namer, layer_namer, names_of_list, names_of_part, names_of_parts, names_of_laid}
use Rattle.dl_forms.proofs.NamingLemmas.{numbered-append}
use Rattle.dl_forms.proofs.TableLemmas.{extends-same, extends-with_name}
use Rattle.dl_notation.proofs.TreeLemmas.{beside, over, laid_out-beside}
use Rattle.dl_notation.proofs.FaultLemmas.{drop-Some, drop-None, no_role}

parts_namer-beside : (qs : List Role) (rest : Option Role) (parts : List Tree) → parts_namer qs rest (map (beside names_of_list) parts) ≡ names_of_parts qs rest parts
parts_namer-beside [] None parts = refl
parts_namer-beside [] (Some q) [] = refl
parts_namer-beside [] (Some q) (part ∷ parts) = ap (λ later. names_of_part q part ++ later) (parts_namer-beside [] (Some q) parts)
parts_namer-beside (q ∷ qs) rest [] = refl
parts_namer-beside (q ∷ qs) rest (part ∷ parts) = ap (λ later. names_of_part q part ++ later) (parts_namer-beside qs rest parts)

laid_namer-beside : (laid : Option (Form × Text × List Tree)) → laid_namer (option_map (over names_of_list) laid) ≡ names_of_laid laid
laid_namer-beside None = refl
laid_namer-beside (Some laid) = parts_namer-beside laid.0.fixed laid.0.rest laid.2

pub names_of_list-Num : (v : ℤ) (p : Place) (l : ListRole) → names_of_list (tree.Num v p) l ≡ []
unfolding names_of_list
names_of_list-Num v p l = ap (λ f. f l) (ap (para-Tree Namer layer_namer) (sym (tree.rolls-Num v p)) ∙ para-roll-Tree Namer layer_namer (layer.Num v p))

pub names_of_list-Sym : (name : Text) (p : Place) (l : ListRole) → names_of_list (tree.Sym name p) l ≡ []
unfolding names_of_list
names_of_list-Sym name p l = ap (λ f. f l) (ap (para-Tree Namer layer_namer) (sym (tree.rolls-Sym name p)) ∙ para-roll-Tree Namer layer_namer (layer.Sym name p))

pub names_of_list-List : (items : List Tree) (p : Place) (l : ListRole) → names_of_list (tree.List items p) l ≡ names_of_laid (laid_out text_of l items)
unfolding names_of_list
names_of_list-List items p l =
    ap (λ f. f l) (ap (para-Tree Namer layer_namer) (sym (tree.rolls-List items p)) ∙ para-roll-Tree Namer layer_namer (layer.List items p))
    ∙ ap laid_namer (laid_out-beside names_of_list l items)
    ∙ laid_namer-beside (laid_out text_of l items)

-- ---- tables

names_of_parts-at : (fixed : List Role) (rest : Option Role) (parts : List Tree) (i : ℕ) (q : Role) (part : Tree) (first : Option Role) →
    slice_get fixed i ≡ first → role_or first rest ≡ Some q → drop i parts ≡ part ∷ drop (suc i) parts →
    names_of_parts (drop i fixed) rest (drop i parts) ≡ names_of_part q part ++ names_of_parts (drop (suc i) fixed) rest (drop (suc i) parts)
names_of_parts-at fixed rest parts i q part (Some r) at_i role there =
    let same : r ≡ q = cc in
    rw (drop-Some fixed i r at_i, there, same) refl
names_of_parts-at fixed rest parts i q part None at_i role there =
    rw ((drop-None fixed i at_i).0, (drop-None fixed i at_i).1, there, role) refl

pub left_step : (names : NameTable) (fixed : List Role) (rest : Option Role) (parts : List Tree) (i : ℕ) (q : Role) (part : Tree) →
    role_at fixed rest i ≡ Some q → i < length parts → part ≡ get_or parts i part →
    numbered (numbered names (names_of_part q part)) (names_of_parts (drop (i + 1) fixed) rest (drop (i + 1) parts)) ≡ numbered names (names_of_parts (drop i fixed) rest (drop i parts))
left_step names fixed rest parts i q part role few is =
    let there : drop i parts ≡ part ∷ drop (suc i) parts = rw (drop-cons parts i part few, ← is) refl in
    rw add-one
    (sym (ap (numbered names) (names_of_parts-at fixed rest parts i q part (slice_get fixed i) refl role there) ∙ numbered-append names (names_of_part q part) (names_of_parts (drop (suc i) fixed) rest (drop (suc i) parts))))

pub no_parts : (fixed : List Role) (rest : Option Role) (parts : List Tree) (i : ℕ) → length parts ≤ i → names_of_parts (drop i fixed) rest (drop i parts) ≡ []
no_parts fixed rest parts i h = rw (drop_of_length-le parts h) (none (drop i fixed) rest)
  where
    none : (fixed : List Role) (rest : Option Role) → names_of_parts fixed rest [] ≡ []
    none [] None = refl
    none [] (Some q) = refl
    none (q ∷ qs) rest = refl

pub no_roles : (fixed : List Role) (rest : Option Role) (parts : List Tree) (i : ℕ) → role_at fixed rest i ≡ None → names_of_parts (drop i fixed) rest (drop i parts) ≡ []
no_roles fixed rest parts i none =
    let past = no_role fixed rest i (slice_get fixed i) refl none in
    rw (past.0, past.1) refl

pub ruleset trees = (extends-same, extends-with_name, names_of_list-Num, names_of_list-Sym, names_of_list-List, left_step, no_parts, no_roles)
