-- What it is that a tree means a file.
use Rattle.std.specs.Prelude.{◌≡◌, Bool, true, false, ◌&&◌, List, [], ◌∷◌}
use Rattle.std.specs.List.{list_all}
use Rattle.dl_tree.specs.declared.tree.Tree.{Tree}
use Rattle.dl_forms.specs.Context.{Text}
use Rattle.dl_forms.specs.Table.{NameTable, first_names, numbered}
use Rattle.dl_notation.specs.declared.role.ListRole.TheVariants as list
use Rattle.dl_notation.specs.Naming.{names_of_list}
use Rattle.dl_notation.specs.Trees.{parts_of}
use Rattle.dl_notation.specs.Environment.{Environment}
use Rattle.dl_file.specs.declared.file.Item.{Item}
use Rattle.dl_file.specs.declared.file.File.{File}
use Rattle.dl_shown.specs.Whole.{shown_file}
use Rattle.dl_means.specs.Before.{behind_item, at_first}
use Rattle.dl_means.specs.Flat.{flat}
use Rattle.dl_means.specs.Says.{says_item}
use Rattle.dl_means.specs.Stands.{item_stands, sort_fits, AreListed}

-- the texts of the names of a file, by their numbers
abbrev pub texts_of : File → List Text
texts_of file = file.names

-- The reserved words have the first numbers, and each other name of the tree has the next one where it stands for the first time.
abbrev pub texts_in : Tree → List Text
texts_in tree = (numbered first_names (names_of_list tree list.File)).texts

-- each item against its tree: what its names stand for, by what stands before it, and where it stands
abbrev pub fit_items : NameTable → File → Environment → List Tree → List Item → Bool
fit_items names file env [] [] = true
fit_items names file env (tree ∷ trees) (item ∷ items) =
    (says_item names env file item && item_stands tree file item) && fit_items names file (behind_item env tree) trees items
fit_items names file env _ _ = false

abbrev pub fit_parts : NameTable → File → List Tree → Bool
fit_parts names file (word ∷ version ∷ nodes ∷ trees) = fit_items names file (at_first nodes) trees file.items
fit_parts names file _ = false

-- The tree means the file.
pub record Means (tree : Tree) (file : File) : Type 0 where
  -- the names of the file with the sorts that it declares
  pub names : NameTable
  pub texts : names.texts ≡ texts_of file
  -- the file is written as this tree is, but for places and what the flat tree writes out
  pub shown : shown_file names file ≡ flat tree
  pub kept : file.tree ≡ tree
  -- names have their numbers in the order in which they come
  pub in_order : texts_of file ≡ texts_in tree
  -- which names are constants, with which values, and where items, proofs and scripts stand
  pub fit : fit_parts names file (parts_of tree) ≡ true
  -- the file holds nothing that no item shows
  pub listed : AreListed names file
  pub sorts : list_all sort_fits names.sorts ≡ true
