-- The equations of what stands behind a list, of the names that a formula binds, and of the value of a term.
use Rattle.std.proofs.Common.{◌≡◌, ℤ, List, [], ◌∷◌, ◌++◌, Option, Some, None, length, map, refl, ap, sym, ◌∙◌}
use Rattle.std.specs.Prelude.{pos, unwrap_or, if◌then◌else◌}
use Rattle.std.proofs.lemmas.List.{length-map}
use Rattle.std.specs.Option.{option_map}
use Rattle.dl_tree.specs.declared.tree.Place.{Place}
use Rattle.dl_tree.specs.declared.tree.Tree.{Tree}
use Rattle.dl_tree.specs.declared.tree.Tree.TheOpen as layer
use Rattle.dl_tree.specs.declared.tree.Tree.TheVariants as tree
use Rattle.dl_tree.specs.declared.tree.Tree.TheFolds.{para-Tree, para-roll-Tree}
use Rattle.dl_forms.specs.declared.position.Position.{Position}
use Rattle.dl_forms.specs.Context.{Text, look_up}
use Rattle.dl_forms.specs.Form.{head_of}
use Rattle.dl_forms.specs.Judge.{text_of}
use Rattle.dl_forms.specs.Naming.{Namer, parts_names, form_names}
use Rattle.dl_forms.specs.Notation.{forms, form_with}
use Rattle.dl_forms.specs.Width.{Words}
use Rattle.dl_notation.specs.declared.role.Role.{Role}
use Rattle.dl_notation.specs.declared.role.ListRole.{ListRole}
use Rattle.dl_notation.specs.Notation.{Form}
use Rattle.dl_notation.specs.Trees.{laid_out}
use Rattle.dl_notation.specs.Environment.{Environment}
use Rattle.dl_notation.specs.Behind.{Passer, parts_passer, laid_passer, layer_passer, list_behind, behind_part, entered}
use Rattle.dl_notation.specs.Bound.{is_binding, layer_bound, bound_in}
use Rattle.dl_notation.specs.Values.{Valuer, form_value, values, layer_value, value}
use Rattle.dl_notation.specs.Parts.{parts_behind, laid_behind}
use Rattle.dl_forms.proofs.FaultLemmas.{fault-Num, fault-Sym, fault-List}
use Rattle.dl_forms.proofs.WidthLemmas.{width-Num, width-Sym, width-List}
use Rattle.dl_notation.proofs.FaultLemmas.{list_fault-List}
use Rattle.dl_notation.proofs.TreeLemmas.{beside, over, trees-beside, laid_out-beside, parts_of-Num, parts_of-Sym, parts_of-List}

parts_passer-beside : (qs : List Role) (rest : Option Role) (parts : List Tree) (env : Environment) →
    parts_passer qs rest (map (beside list_behind) parts) env ≡ parts_behind qs rest parts env
parts_passer-beside [] None parts env = refl
parts_passer-beside [] (Some q) [] env = refl
parts_passer-beside [] (Some q) (part ∷ parts) env = parts_passer-beside [] (Some q) parts (behind_part env q part)
parts_passer-beside (q ∷ qs) rest [] env = refl
parts_passer-beside (q ∷ qs) rest (part ∷ parts) env = parts_passer-beside qs rest parts (behind_part env q part)

laid_passer-beside : (l : ListRole) (laid : Option (Form × Text × List Tree)) (env : Environment) → laid_passer l (option_map (over list_behind) laid) env ≡ laid_behind l laid env
laid_passer-beside l None env = refl
laid_passer-beside l (Some laid) env = rw (trees-beside list_behind laid.2, parts_passer-beside laid.0.fixed laid.0.rest laid.2 (entered env l laid.1)) refl

pub list_behind-Num : (v : ℤ) (p : Place) (l : ListRole) (env : Environment) → list_behind (tree.Num v p) l env ≡ env
unfolding list_behind
list_behind-Num v p l env = ap (λ f. f l env) (ap (para-Tree Passer layer_passer) (sym (tree.rolls-Num v p)) ∙ para-roll-Tree Passer layer_passer (layer.Num v p))

pub list_behind-Sym : (name : Text) (p : Place) (l : ListRole) (env : Environment) → list_behind (tree.Sym name p) l env ≡ env
unfolding list_behind
list_behind-Sym name p l env = ap (λ f. f l env) (ap (para-Tree Passer layer_passer) (sym (tree.rolls-Sym name p)) ∙ para-roll-Tree Passer layer_passer (layer.Sym name p))

-- What stands behind a list is told by its form.
pub list_behind-List : (items : List Tree) (p : Place) (l : ListRole) (env : Environment) → list_behind (tree.List items p) l env ≡ laid_behind l (laid_out text_of l items) env
unfolding list_behind
list_behind-List items p l env =
    ap (λ f. f l env) (ap (para-Tree Passer layer_passer) (sym (tree.rolls-List items p)) ∙ para-roll-Tree Passer layer_passer (layer.List items p))
    ∙ ap (λ laid. laid_passer l laid env) (laid_out-beside list_behind l items)
    ∙ laid_passer-beside l (laid_out text_of l items) env

-- ---- the names that a formula binds

abbrev pub bound_in_parts : List Position → List Tree → List Text
bound_in_parts (q ∷ qs) (part ∷ parts) = bound_in part q ++ bound_in_parts qs parts
bound_in_parts _ _ = []

abbrev pub bound_in_form : List Tree → Option (List Position) → List Text
bound_in_form parts (Some form) = bound_in_parts form parts
bound_in_form parts None = []

parts_names-beside : (qs : List Position) (parts : List Tree) → parts_names qs (map (beside bound_in) parts) ≡ bound_in_parts qs parts
parts_names-beside [] parts = refl
parts_names-beside (q ∷ qs) [] = refl
parts_names-beside (q ∷ qs) (part ∷ parts) = ap (λ later. bound_in part q ++ later) (parts_names-beside qs parts)

form_names-beside : (parts : List Tree) (form : Option (List Position)) → form_names (map (beside bound_in) parts) form ≡ bound_in_form parts form
form_names-beside parts None = refl
form_names-beside parts (Some form) = parts_names-beside form parts

pub bound_in-Num : (v : ℤ) (p : Place) (q : Position) → bound_in (tree.Num v p) q ≡ []
unfolding bound_in
bound_in-Num v p q = ap (λ f. f q) (ap (para-Tree Namer layer_bound) (sym (tree.rolls-Num v p)) ∙ para-roll-Tree Namer layer_bound (layer.Num v p))

pub bound_in-Sym : (name : Text) (p : Place) (q : Position) → bound_in (tree.Sym name p) q ≡ (if is_binding q then name ∷ [] else [])
unfolding bound_in
bound_in-Sym name p q = ap (λ f. f q) (ap (para-Tree Namer layer_bound) (sym (tree.rolls-Sym name p)) ∙ para-roll-Tree Namer layer_bound (layer.Sym name p))

pub bound_in-List : (first : Tree) (parts : List Tree) (p : Place) (q : Position) →
    bound_in (tree.List (first ∷ parts) p) q ≡ bound_in_form parts (form_with (length parts) (forms q (head_of first)))
unfolding bound_in
bound_in-List first parts p q =
    ap (λ f. f q) (ap (para-Tree Namer layer_bound) (sym (tree.rolls-List (first ∷ parts) p)) ∙ para-roll-Tree Namer layer_bound (layer.List (first ∷ parts) p))
    ∙ ap (λ n. form_names (map (beside bound_in) parts) (form_with n (forms q (head_of first)))) (length-map parts (beside bound_in))
    ∙ form_names-beside parts (form_with (length parts) (forms q (head_of first)))

-- ---- values

abbrev pub values_of : Words → List Tree → List ℤ
values_of words [] = []
values_of words (part ∷ parts) = value part words ∷ values_of words parts

values-beside : (words : Words) (parts : List Tree) → values words (map (beside value) parts) ≡ values_of words parts
values-beside words [] = refl
values-beside words (part ∷ parts) = ap (λ rest. value part words ∷ rest) (values-beside words parts)

pub value-Num : (v : ℤ) (p : Place) (words : Words) → value (tree.Num v p) words ≡ v
unfolding value
value-Num v p words = ap (λ f. f words) (ap (para-Tree Valuer layer_value) (sym (tree.rolls-Num v p)) ∙ para-roll-Tree Valuer layer_value (layer.Num v p))

pub value-Sym : (name : Text) (p : Place) (words : Words) → value (tree.Sym name p) words ≡ unwrap_or (look_up name words) (pos 0)
unfolding value
value-Sym name p words = ap (λ f. f words) (ap (para-Tree Valuer layer_value) (sym (tree.rolls-Sym name p)) ∙ para-roll-Tree Valuer layer_value (layer.Sym name p))

pub value-List : (first : Tree) (parts : List Tree) (p : Place) (words : Words) → value (tree.List (first ∷ parts) p) words ≡ form_value (text_of first) (values_of words parts)
unfolding value
value-List first parts p words =
    ap (λ f. f words) (ap (para-Tree Valuer layer_value) (sym (tree.rolls-List (first ∷ parts) p)) ∙ para-roll-Tree Valuer layer_value (layer.List (first ∷ parts) p))
    ∙ ap (form_value (text_of first)) (values-beside words parts)

-- what computes on a tree that is written out
pub ruleset computing = (
  parts_of-Num,
  parts_of-Sym,
  parts_of-List,
  list_fault-List,
  list_behind-List,
  bound_in-Num,
  bound_in-Sym,
  bound_in-List,
  value-Num,
  value-Sym,
  value-List,
  fault-Num,
  fault-Sym,
  fault-List,
  width-Num,
  width-Sym,
  width-List,
)
