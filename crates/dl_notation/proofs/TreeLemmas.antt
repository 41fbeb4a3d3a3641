-- What stands in a tree.
use Rattle.std.proofs.Common.{◌≡◌, ℤ, List, [], ◌∷◌, Option, Some, None, length, map, refl, ap, sym, ◌∙◌}
use Rattle.std.proofs.lemmas.List.{length-map}
use Rattle.std.specs.Option.{option_map}
use Rattle.dl_tree.specs.declared.tree.Place.{Place}
use Rattle.dl_tree.specs.declared.tree.Tree.{Tree}
use Rattle.dl_tree.specs.declared.tree.Tree.TheOpen as layer
use Rattle.dl_tree.specs.declared.tree.Tree.TheVariants as tree
use Rattle.dl_tree.specs.declared.tree.Tree.TheFolds.{para-Tree, para-roll-Tree}
use Rattle.dl_forms.specs.Context.{Text}
use Rattle.dl_forms.specs.Judge.{text_of}
use Rattle.dl_notation.specs.declared.role.ListRole.{ListRole}
use Rattle.dl_notation.specs.Notation.{Form, headless, headed, form_named, form_with}
use Rattle.dl_notation.specs.Trees.{layer_parts, parts_of, with_parts, headed_by, laid_as, laid_out}

-- a tree with what is said of it
abbrev pub beside : {X : Type 0} → (Tree → X) → Tree → Tree × X
beside f tree = (tree, f tree)

pub trees-beside : {X : Type 0} (f : Tree → X) (parts : List Tree) → map (λ (part : Tree × X). part.0) (map (beside f) parts) ≡ parts
trees-beside f [] = refl
trees-beside f (part ∷ parts) = ap (λ rest. part ∷ rest) (trees-beside f parts)

pub parts_of-Num : (v : ℤ) (p : Place) → parts_of (tree.Num v p) ≡ []
unfolding parts_of
parts_of-Num v p = ap (para-Tree (List Tree) layer_parts) (sym (tree.rolls-Num v p)) ∙ para-roll-Tree (List Tree) layer_parts (layer.Num v p)

pub parts_of-Sym : (name : Text) (p : Place) → parts_of (tree.Sym name p) ≡ []
unfolding parts_of
parts_of-Sym name p = ap (para-Tree (List Tree) layer_parts) (sym (tree.rolls-Sym name p)) ∙ para-roll-Tree (List Tree) layer_parts (layer.Sym name p)

pub parts_of-List : (items : List Tree) (p : Place) → parts_of (tree.List items p) ≡ items
unfolding parts_of
parts_of-List items p =
    ap (para-Tree (List Tree) layer_parts) (sym (tree.rolls-List items p)) ∙ para-roll-Tree (List Tree) layer_parts (layer.List items p)
    ∙ trees-beside parts_of items

-- ---- a list laid out, with what is said of each part

abbrev pub over : {X : Type 0} → (Tree → X) → Form × Text × List Tree → Form × Text × List (Tree × X)
over f laid = (laid.0, laid.1, map (beside f) laid.2)

module _ {X : Type 0} (f : Tree → X) where
  with_parts-beside : (word : Text) (parts : List Tree) (form : Option Form) → with_parts word (map (beside f) parts) form ≡ option_map (over f) (with_parts word parts form)
  with_parts-beside word parts None = refl
  with_parts-beside word parts (Some form) = refl

  headed_by-beside : (forms : List (Text × Form)) (parts : List Tree) →
      headed_by (λ (part : Tree × X). text_of part.0) forms (map (beside f) parts) ≡ option_map (over f) (headed_by text_of forms parts)
  headed_by-beside forms [] = refl
  headed_by-beside forms (first ∷ parts) =
      ap (λ n. with_parts (text_of first) (map (beside f) parts) (form_named (text_of first) n forms)) (length-map parts (beside f))
      ∙ with_parts-beside (text_of first) parts (form_named (text_of first) (length parts) forms)

  laid_as-beside : (role : ListRole) (parts : List Tree) (form : Option Form) →
      laid_as (λ (part : Tree × X). text_of part.0) role (map (beside f) parts) form ≡ option_map (over f) (laid_as text_of role parts form)
  laid_as-beside role parts None = headed_by-beside (headed role) parts
  laid_as-beside role parts (Some form) =
      ap (λ n. with_parts [] (map (beside f) parts) (form_with n form)) (length-map parts (beside f))
      ∙ with_parts-beside [] parts (form_with (length parts) form)

  pub laid_out-beside : (role : ListRole) (parts : List Tree) →
      laid_out (λ (part : Tree × X). text_of part.0) role (map (beside f) parts) ≡ option_map (over f) (laid_out text_of role parts)
  laid_out-beside role parts = laid_as-beside role parts (headless role)

pub ruleset trees = (parts_of-Num, parts_of-Sym, parts_of-List)
