-- A plain tree means at most one file.
use Rattle.std.proofs.Common.{◌≡◌, true, List, [], ◌∷◌, Some, refl, ap, sym, subst, ◌∙◌}
use Rattle.std.specs.Prelude.{map, slice_get, pos, is_some, codes}
use Rattle.std.specs.List.{AllByRecursion as Each}
use Rattle.dl_tree.specs.declared.tree.Tree.{Tree}
use Rattle.dl_model.specs.Words.{first_name}
use Rattle.dl_model.specs.Formed.{IsFormed}
use Rattle.dl_file.specs.declared.file.File.{File}
use Rattle.dl_forms.specs.Context.{Text}
use Rattle.dl_forms.specs.Table.{NameTable}
use Rattle.dl_forms.specs.Show.{bare, symbol, number, form}
use Rattle.dl_notation.specs.declared.role.ListRole.TheVariants as list
use Rattle.dl_notation.specs.Naming.{names_of_list}
use Rattle.dl_notation.specs.Trees.{parts_of}
use Rattle.dl_shown.specs.Shown.{nodes_from}
use Rattle.dl_shown.specs.Whole.{item_of, shown_file}
use Rattle.dl_means.specs.Before.{at_first}
use Rattle.dl_means.specs.Flat.{flat_items, flat_file, flat}
use Rattle.dl_means.specs.Stands.{AreListed}
use Rattle.dl_means.specs.Means.{texts_in, fit_parts, Means}
use Rattle.dl_one_file.proofs.Trees.{apart, IsFine, same-list, same-tail}
use Rattle.dl_one_file.proofs.Flatten.{parts-fine-of}
use Rattle.dl_one_file.proofs.Alike.{SameNames}
use Rattle.dl_one_file.proofs.Names.{AreApart, apart-in, int-first, self-fourth, the-same}
use Rattle.dl_one_file.proofs.Pairs.{AreWritten, same-items}
use Rattle.dl_one_file.proofs.Order.{skeleton}
use Rattle.dl_one_file.proofs.Things.{AreFormed, same-proofs, same-decls}

-- the items of both files, by the parts of the tree
written-by : (na nb : NameTable) (a b : File) (tree : Tree) (parts : List Tree) → parts_of tree ≡ parts → Each IsFine parts → shown_file na a ≡ flat tree → shown_file na a ≡ shown_file nb b →
    AreListed na a → AreListed nb b → fit_parts na a parts ≡ true → fit_parts nb b parts ≡ true → AreWritten na nb a b
unfolding flat
written-by na nb a b tree [] is fine flat_a shown la lb fa fb = absurd (apart fa)
written-by na nb a b tree (word ∷ []) is fine flat_a shown la lb fa fb = absurd (apart fa)
written-by na nb a b tree (word ∷ version ∷ []) is fine flat_a shown la lb fa fb = absurd (apart fa)
written-by na nb a b tree (word ∷ version ∷ nodes ∷ trees) is fine flat_a shown la lb fa fb =
    let all : symbol (codes "disel") ∷ number (pos 1) ∷ form (codes "nodes") (nodes_from na first_name a.decls.inst.nodes) ∷ map (item_of na a) a.items
    ≡ bare word ∷ bare version ∷ bare nodes ∷ flat_items (at_first nodes) trees = same-list _ _ (flat_a ∙ ap (flat_file tree) is) in
    record {
      shown = shown;
      listed_a = la;
      listed_b = lb;
      env = at_first nodes;
      trees = trees;
      trees_fine = fine.1.1.1;
      flat_a = same-tail _ _ _ _ (same-tail _ _ _ _ (same-tail _ _ _ _ all));
      fit_a = fa;
      fit_b = fb;
    }

module _ (tree : Tree) (a b : File) (ma : Means tree a) (mb : Means tree b) where
  texts_a : ma.names.texts ≡ texts_in tree
  texts_a = ma.texts ∙ ma.in_order

  texts_b : mb.names.texts ≡ texts_in tree
  texts_b = mb.texts ∙ mb.in_order

  names-same : SameNames ma.names mb.names
  names-same = the-same ma.names mb.names (texts_a ∙ sym texts_b) (subst AreApart (sym texts_a) (apart-in (names_of_list tree list.File)))

  int : slice_get ma.names.texts 0 ≡ Some (codes "int")
  int = ap (λ (texts : List Text). slice_get texts 0) texts_a ∙ int-first (names_of_list tree list.File)

  self : slice_get ma.names.texts 3 ≡ Some (codes "self")
  self = ap (λ (texts : List Text). slice_get texts 3) texts_a ∙ self-fourth (names_of_list tree list.File)

  pub same-file : IsFormed a.decls → IsFormed b.decls → is_some a.decls.deploy ≡ true → is_some b.decls.deploy ≡ true → IsFine tree → a ≡ b
  same-file formed_a formed_b deployed_a deployed_b fine =
      let written : AreWritten ma.names mb.names a b =
      written-by ma.names mb.names a b tree (parts_of tree) refl (parts-fine-of tree fine).fine ma.shown (ma.shown ∙ sym mb.shown) ma.listed mb.listed ma.fit mb.fit in
      let formed : AreFormed ma.names mb.names a b = record {
        formed_a = formed_a;
        formed_b = formed_b;
        deployed_a = deployed_a;
        deployed_b = deployed_b;
        same = skeleton ma.names mb.names a b written names-same formed_a formed_b int self;
      } in
      let names : a.names ≡ b.names = ma.in_order ∙ sym mb.in_order in
      let decls : a.decls ≡ b.decls = same-decls ma.names mb.names a b written formed in
      let proofs : a.proofs ≡ b.proofs = same-proofs ma.names mb.names a b written formed in
      let items : a.items ≡ b.items = same-items ma.names mb.names a b written in
      let trees : a.tree ≡ b.tree = ma.kept ∙ sym mb.kept in
      λ i. record { names = names i; decls = decls i; proofs = proofs i; items = items i; tree = trees i }
