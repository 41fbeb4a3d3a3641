-- What the parts of the test of a file find out. Only the crate's private clauses cite it.
use Rattle.std.specs.Prelude.{◌≡◌, true, pos, List, map, codes}
use Rattle.dl_tree.specs.declared.tree.Tree.{Tree}
use Rattle.dl_model.specs.Words.{first_name}
use Rattle.dl_forms.specs.Table.{NameTable}
use Rattle.dl_forms.specs.Show.{bare, form, symbol, number}
use Rattle.dl_notation.specs.Trees.{parts_of}
use Rattle.dl_notation.specs.Environment.{Environment}
use Rattle.dl_file.specs.declared.file.Item.{Item}
use Rattle.dl_file.specs.declared.file.File.{File}
use Rattle.dl_shown.specs.Shown.{nodes_from}
use Rattle.dl_shown.specs.Whole.{item_of, shown_file}
use Rattle.dl_means.specs.Flat.{flat, flat_item, flat_items}
use Rattle.dl_means.specs.Says.{says_item}
use Rattle.dl_means.specs.Stands.{item_stands}
use Rattle.dl_means.specs.Means.{fit_items, fit_parts}

-- an item against its tree
pub record ItemFits (names : NameTable) (file : File) (env : Environment) (tree : Tree) (item : Item) : Type 0 where
  pub shown : flat_item env tree ≡ item_of names file item
  pub says : says_item names env file item ≡ true
  pub stands : item_stands tree file item ≡ true

-- items against their trees
pub record ItemsFit (names : NameTable) (file : File) (env : Environment) (trees : List Tree) (items : List Item) : Type 0 where
  pub shown : flat_items env trees ≡ map (item_of names file) items
  pub fit : fit_items names file env trees items ≡ true

-- what a file begins with
pub record Begins (names : NameTable) (file : File) (word version nodes : Tree) : Type 0 where
  pub word_is : bare word ≡ symbol (codes "disel")
  pub version_is : bare version ≡ number (pos 1)
  pub nodes_are : bare nodes ≡ form (codes "nodes") (nodes_from names first_name file.decls.inst.nodes)

-- the file against its tree
pub record IsWritten (names : NameTable) (file : File) : Type 0 where
  pub shown : shown_file names file ≡ flat file.tree
  pub fit : fit_parts names file (parts_of file.tree) ≡ true
