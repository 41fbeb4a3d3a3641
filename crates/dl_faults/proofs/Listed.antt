-- The parts of a tree, and those of a list that pass a test, one after another.
use Rattle.std.proofs.Common.{◌≡◌, ℕ, ℤ, List, [], ◌∷◌, ◌++◌, map, append_assoc, refl, sym, ap, ◌∙◌}
use Rattle.dl_tree.specs.declared.tree.Place.{Place}
use Rattle.dl_tree.specs.declared.tree.Tree.{Tree, List', Row_of-Tree, end_of-Tree, more_of-Tree, items-the_row-Tree, items_hidden-the_row-Tree-0}
use Rattle.dl_tree.specs.declared.tree.Tree.TheVariants as tree
use Rattle.std.specs.List.{flat_map}
use Rattle.dl_faults.specs.Places.{row_parts, parts_of, named_list, label_lists, label_lists_in}

abbrev row_of : Tree → (n : _) × Row_of-Tree n
row_of (List' shape row p) = (_, row)
row_of _ = (_, end_of-Tree)

row-items : (n : _) (row : Row_of-Tree n) → row_parts row ≡ items-the_row-Tree n row
row-items n end_of-Tree = refl
row-items n (more_of-Tree part parts) = ap (λ rest. part ∷ rest) (row-items _ parts)

pub parts-List : (items : List Tree) (p : Place) → parts_of (tree.List items p) ≡ items
parts-List items p = let row = row_of (tree.List items p) in row-items row.0 row.1 ∙ items_hidden-the_row-Tree-0 items

pub parts-Num : (v : ℤ) (p : Place) → parts_of (tree.Num v p) ≡ []
parts-Num v p = refl

pub parts-Sym : (name : List ℕ) (p : Place) → parts_of (tree.Sym name p) ≡ []
parts-Sym name p = refl

pub ruleset trees = (parts-List, parts-Num, parts-Sym)

row-lists : (n : _) (row : Row_of-Tree n) → label_lists_in row ≡ flat_map label_lists (items-the_row-Tree n row)
row-lists n end_of-Tree = refl
row-lists n (more_of-Tree part parts) = ap (λ rest. label_lists part ++ rest) (row-lists _ parts)

-- the lists that name a label, of a list
pub lists-List : (items : List Tree) (p : Place) → label_lists (tree.List items p) ≡ named_list (tree.List items p) ++ flat_map label_lists items
lists-List items p =
    let row = row_of (tree.List items p) in
    ap (λ rest. named_list (tree.List items p) ++ rest) (row-lists row.0 row.1 ∙ ap (flat_map label_lists) (items_hidden-the_row-Tree-0 items))

module _ (g : Tree → Place) where
  map-append : (xs ys : List Tree) → map g (xs ++ ys) ≡ map g xs ++ map g ys
  map-append [] ys = refl
  map-append (x ∷ xs) ys = ap (λ rest. g x ∷ rest) (map-append xs ys)

  -- the place of a list itself, and then those of its parts
  pub placed : (old middle new : List Place) (whole : Tree) (items : List Tree) (p : Place) → whole ≡ tree.List items p →
      middle ≡ old ++ map g (named_list whole) → new ≡ middle ++ map g (flat_map label_lists items) → new ≡ old ++ map g (label_lists whole)
  placed old middle new whole items p is own further =
      let own_places = map g (named_list whole) in
      let part_places = map g (flat_map label_lists items) in
      let lists : label_lists whole ≡ named_list whole ++ flat_map label_lists items =
      ap label_lists is ∙ (lists-List items p ∙ ap (λ t. named_list t ++ flat_map label_lists items) (sym is)) in
      further ∙ (ap (λ m. m ++ part_places) own ∙ (append_assoc old own_places part_places
      ∙ ap (λ rest. old ++ rest) (sym (ap (map g) lists ∙ map-append (named_list whole) (flat_map label_lists items)))))
