-- The places of a file's items, proofs and scripts, and the numbers of its items.
use Rattle.std.specs.Prelude.{◌≡◌, ℕ, suc, Bool, true, ◌&&◌, ◌==◌, if◌then◌else◌, List, [], ◌∷◌, length, Option, Some, None, slice_get, unwrap_or}
use Rattle.std.specs.Ordering.{int_eq}
use Rattle.dl_term.specs.declared.syntax.Sort.{Sort}
use Rattle.dl_tree.specs.declared.tree.Place.{Place}
use Rattle.dl_tree.specs.declared.tree.Tree.{Tree}
use Rattle.dl_tree.specs.TreePlace.{place_of}
use Rattle.dl_sequent.specs.declared.script.Rule.{Rule}
use Rattle.dl_sequent.specs.declared.script.Rule.TheBlock as r
use Rattle.dl_sequent.specs.declared.script.Rule.TheBlock.{more_of-Script as script, end_of-Script as last}
use Rattle.dl_forms.specs.declared.scope.SortDecl.{SortDecl}
use Rattle.dl_forms.specs.Table.{NameTable}
use Rattle.dl_notation.specs.Trees.{parts_of}
use Rattle.dl_notation.specs.Environment.{below}
use Rattle.dl_file.specs.declared.file.ItemKind.{ItemKind}
use Rattle.dl_file.specs.declared.file.ItemKind.TheVariants as kind
use Rattle.dl_file.specs.declared.file.Item.{Item}
use Rattle.dl_file.specs.declared.file.Proof.{Proof}
use Rattle.dl_file.specs.declared.file.File.{File}
use Rattle.dl_means.specs.Says.{of_some}

-- ---- places

abbrev pub same_place : Place → Place → Bool
same_place p q = (p.line == q.line) && (p.col == q.col)

-- the part of this number, the word of a form being number 0; the list itself where it has no such part
abbrev pub part_at : Tree → ℕ → Tree
part_at tree n = unwrap_or (slice_get (parts_of tree) n) tree

-- a rule stands where its list does, and so do those of its sub-scripts
abbrev pub stands : Tree → Rule → Place → Bool
stands tree (r.By hyp) p = same_place p (place_of tree)
stands tree r.Close p = same_place p (place_of tree)
stands tree (r.Split' _ (script a ap last) _ (script b bp last)) p = same_place p (place_of tree) && (stands (part_at tree 1) a ap && stands (part_at tree 2) b bp)
stands tree (r.Pick' part _ (script a ap last)) p = same_place p (place_of tree) && stands (part_at tree 2) a ap
stands tree (r.Intro' name _ (script a ap last)) p = same_place p (place_of tree) && stands (part_at tree 2) a ap
stands tree (r.Open' var _ (script a ap last)) p = same_place p (place_of tree) && stands (part_at tree 2) a ap
stands tree (r.Give' what _ (script a ap last)) p = same_place p (place_of tree) && stands (part_at tree 2) a ap
stands tree (r.Parts' hyp left right _ (script a ap last)) p = same_place p (place_of tree) && stands (part_at tree 4) a ap
stands tree (r.Cases' hyp name _ (script a ap last) _ (script b bp last)) p = same_place p (place_of tree) && (stands (part_at tree 3) a ap && stands (part_at tree 4) b bp)
stands tree (r.Apply' hyp name _ (script a ap last) _ (script b bp last)) p = same_place p (place_of tree) && (stands (part_at tree 3) a ap && stands (part_at tree 4) b bp)
stands tree (r.Inst' hyp what name _ (script a ap last)) p = same_place p (place_of tree) && stands (part_at tree 4) a ap
stands tree (r.Unpack' hyp var name _ (script a ap last)) p = same_place p (place_of tree) && stands (part_at tree 4) a ap
stands tree (r.Have' formula name _ (script a ap last) _ (script b bp last)) p = same_place p (place_of tree) && (stands (part_at tree 3) a ap && stands (part_at tree 4) b bp)
stands tree (r.Decide' formula name _ (script a ap last) _ (script b bp last)) p = same_place p (place_of tree) && (stands (part_at tree 3) a ap && stands (part_at tree 4) b bp)
stands tree (r.Rewrite' hyp at _ (script a ap last)) p = same_place p (place_of tree) && stands (part_at tree 3) a ap
stands tree (r.Reduce' hyp at _ (script a ap last)) p = same_place p (place_of tree) && stands (part_at tree 3) a ap
stands tree (r.Range' term name _ (script a ap last)) p = same_place p (place_of tree) && stands (part_at tree 3) a ap
stands tree (r.Linear first second) p = same_place p (place_of tree)

-- a proof stands where its item does, and its script where the last part of the item does
abbrev pub proof_stands : Tree → Proof → Bool
proof_stands tree proof = same_place proof.place (place_of tree) && stands (part_at tree 3) proof.script.rule proof.script.place

abbrev pub kind_stands : Tree → File → ItemKind → ℕ → Bool
kind_stands tree file kind.Proof at = of_some (proof_stands tree) (slice_get file.proofs at)
kind_stands tree file _ at = true

abbrev pub item_stands : Tree → File → Item → Bool
item_stands tree file item = same_place item.place (place_of tree) && kind_stands tree file item.kind item.at

-- ---- numbers

abbrev pub kind_number : ItemKind → ℕ
kind_number kind.Sort = 0
kind_number kind.Protocol = 1
kind_number kind.Label = 2
kind_number kind.Hook = 3
kind_number kind.World = 4
kind_number kind.Invariant = 5
kind_number kind.Procedure = 6
kind_number kind.Deploy = 7
kind_number kind.Proof = 8

-- The items of a kind have the numbers from `first` on, in their order, up to the count.
abbrev pub are_numbered : ℕ → ℕ → ℕ → List Item → Bool
are_numbered number first count [] = first == count
are_numbered number first count (item ∷ items) =
    if number == kind_number item.kind then (item.at == first) && are_numbered number (suc first) count items else are_numbered number first count items

abbrev pub deploy_count : {X : Type 0} → Option X → ℕ
deploy_count (Some deploy) = 1
deploy_count None = 0

-- each thing that the file holds has one item, in its order
pub record AreListed (names : NameTable) (file : File) : Type 0 where
  pub sorts : are_numbered (kind_number kind.Sort) 0 (length names.sorts) file.items ≡ true
  pub protocols : are_numbered (kind_number kind.Protocol) 0 (length file.decls.inst.protocols) file.items ≡ true
  pub labels : are_numbered (kind_number kind.Label) 0 (length file.decls.labels) file.items ≡ true
  pub hooks : are_numbered (kind_number kind.Hook) 0 (length file.decls.hooks) file.items ≡ true
  pub worlds : are_numbered (kind_number kind.World) 0 (length file.decls.worlds) file.items ≡ true
  pub invariants : are_numbered (kind_number kind.Invariant) 0 (length file.decls.invariants) file.items ≡ true
  pub procs : are_numbered (kind_number kind.Procedure) 0 (length file.decls.procs) file.items ≡ true
  pub deploy : are_numbered (kind_number kind.Deploy) 0 (deploy_count file.decls.deploy) file.items ≡ true
  pub proofs : are_numbered (kind_number kind.Proof) 0 (length file.proofs) file.items ≡ true

-- ---- sorts

abbrev pub same_sort : Sort → Sort → Bool
same_sort a b = int_eq a.low b.low && int_eq a.high b.high

-- a sort with enumerators holds their numbers alone
abbrev pub fits_values : Sort → List ℕ → Bool
fits_values sort [] = true
fits_values sort (value ∷ values) = same_sort sort (below (length (value ∷ values)))

abbrev pub sort_fits : SortDecl → Bool
sort_fits sort = fits_values sort.sort sort.values
