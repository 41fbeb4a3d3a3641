-- Items against their trees, one after another, and the whole file.
use Rattle.std.proofs.Common.{◌≡◌, ◌≤◌, ◌-◌, IfOk, Bool, true, false, List, [], ◌∷◌, length, get_or, take, drop, refl, sym, ap, ◌∙◌, arith}
use Rattle.std.proofs.lemmas.List.{take_all}
use Rattle.std.specs.Prelude.{◌&&◌, pos, codes, Result}
use Rattle.std.proofs.lemmas.Result.{IfOk-weaker}
use Rattle.dl_tree.specs.declared.tree.Tree.{Tree}
use Rattle.dl_forms.specs.Table.{NameTable}
use Rattle.dl_forms.specs.Show.{bare, symbol, number, form}
use Rattle.dl_model.specs.Words.{first_name}
use Rattle.dl_notation.specs.Trees.{parts_of}
use Rattle.dl_notation.specs.Environment.{Environment}
use Rattle.dl_file.specs.declared.file.Item.{Item}
use Rattle.dl_file.specs.declared.file.File.{File}
use Rattle.dl_shown.specs.Shown.{listed, nodes_from}
use Rattle.dl_shown.specs.Whole.{item_of}
use Rattle.dl_means.specs.Before.{behind_item, at_first}
use Rattle.dl_means.specs.Flat.{flat, flat_file, flat_items}
use Rattle.dl_means.specs.Says.{says_item}
use Rattle.dl_means.specs.Stands.{item_stands}
use Rattle.dl_means.specs.Means.{fit_items, fit_parts}
use Rattle.dl_means.specs.Facts.{ItemFits, ItemsFit, Begins, IsWritten}

both : (a b c : Bool) → a ≡ true → b ≡ true → c ≡ true → ((a && b) && c) ≡ true
both true true true _ _ _ = refl
both true true false _ _ h = h
both true false c _ h _ = absurd (no h)
  where
    no : false ≡ true → ⊥
    no e = cc
both false b c h _ _ = absurd (no h)
  where
    no : false ≡ true → ⊥
    no e = cc

-- a list is its first three and what is left
taken : (parts : List Tree) (first second third : Tree) → 3 ≤ length parts → first ≡ get_or parts 0 first → second ≡ get_or parts 1 second → third ≡ get_or parts 2 third →
    parts ≡ first ∷ second ∷ third ∷ take (length parts - 3) (drop 3 parts)
taken [] first second third few a b c = absurd (omega (arith, few))
taken (x ∷ []) first second third few a b c = absurd (omega (arith, few))
taken (x ∷ y ∷ []) first second third few a b c = absurd (omega (arith, few))
taken (x ∷ y ∷ z ∷ rest) first second third few a b c =
    let all : take (length (x ∷ y ∷ z ∷ rest) - 3) rest ≡ rest = take_all (length (x ∷ y ∷ z ∷ rest) - 3) rest (omega arith) in
    cc

module _ (names : NameTable) (file : File) where
  -- no items and no trees
  pub none-fit : (env : Environment) → ItemsFit names file env [] []
  none-fit env = record { shown = refl; fit = refl }

  -- an item and those behind it
  pub next-fits : (env : Environment) (tree : Tree) (item : Item) (trees : List Tree) (items : List Item) →
      ItemFits names file env tree item → ItemsFit names file (behind_item env tree) trees items → ItemsFit names file env (tree ∷ trees) (item ∷ items)
  next-fits env tree item trees items first rest = record {
    shown = ap (λ t. t ∷ flat_items (behind_item env tree) trees) first.shown ∙ ap (λ ts. item_of names file item ∷ ts) rest.shown;
    fit = both (says_item names env file item) (item_stands tree file item) (fit_items names file (behind_item env tree) trees items) first.says first.stands rest.fit;
  }

  -- the whole file
  pub all-written : (word version nodes : Tree) (trees : List Tree) → parts_of file.tree ≡ word ∷ version ∷ nodes ∷ trees →
      Begins names file word version nodes → ItemsFit names file (at_first nodes) trees file.items → IsWritten names file
  unfolding flat
  all-written word version nodes trees is begins fits =
      let word' = symbol (codes "disel") in
      let version' = number (pos 1) in
      let nodes' = form (codes "nodes") (nodes_from names first_name file.decls.inst.nodes) in
      let flat_trees = flat_items (at_first nodes) trees in record {
        shown = sym (ap (flat_file file.tree) is
            ∙ (ap (λ w. listed (w ∷ bare version ∷ bare nodes ∷ flat_trees)) begins.word_is
            ∙ (ap (λ v. listed (word' ∷ v ∷ bare nodes ∷ flat_trees)) begins.version_is
            ∙ (ap (λ n. listed (word' ∷ version' ∷ n ∷ flat_trees)) begins.nodes_are
            ∙ ap (λ ts. listed (word' ∷ version' ∷ nodes' ∷ ts)) fits.shown))));
        fit = ap (fit_parts names file) is ∙ fits.fit;
      }

  -- the same by the parts of the tree, where they fit only where all items do
  pub parts-written : {E : Type 0} (parts : List Tree) (word version nodes : Tree) → parts ≡ parts_of file.tree → 3 ≤ length parts →
      word ≡ get_or parts 0 word → version ≡ get_or parts 1 version → nodes ≡ get_or parts 2 nodes → Begins names file word version nodes → (answer : Result Bool E) →
      IfOk answer (λ fit. fit ≡ true → ItemsFit names file (at_first nodes) (take (length parts - 3) (drop 3 parts)) file.items) → IfOk answer (λ is. is ≡ true → IsWritten names file)
  parts-written parts word version nodes are few word_is version_is nodes_is begins answer fit =
      let trees : List Tree = take (length parts - 3) (drop 3 parts) in
      let whole : parts_of file.tree ≡ word ∷ version ∷ nodes ∷ trees = sym are ∙ taken parts word version nodes few word_is version_is nodes_is in
      IfOk-weaker answer (λ (is : Bool). is ≡ true → ItemsFit names file (at_first nodes) trees file.items) (λ (is : Bool). is ≡ true → IsWritten names file)
      (λ (is : Bool) (all : is ≡ true → ItemsFit names file (at_first nodes) trees file.items) (holds : is ≡ true). all-written word version nodes trees whole begins (all holds)) fit
