-- Two files that are written alike: each thing stands in both at the same item.
use Rattle.std.proofs.Common.{◌≡◌, ℕ, zero, suc, ◌<◌, true, false, ◌==◌, List, [], ◌∷◌, length, map, Some, refl, ap, sym, subst, ◌∙◌, eq-eqb, arith, inl, inr}
use Rattle.std.specs.Prelude.{◌&&◌, slice_get, pos, codes}
use Rattle.std.specs.List.{AllByRecursion as Each}
use Rattle.std.proofs.lemmas.List.{length-map}
use Rattle.dl_tree.specs.declared.tree.Tree.{Tree}
use Rattle.dl_tree.specs.TreePlace.{place_of}
use Rattle.dl_model.specs.Words.{first_name}
use Rattle.dl_file.specs.declared.file.ItemKind.{ItemKind}
use Rattle.dl_file.specs.declared.file.Item.{Item}
use Rattle.dl_file.specs.declared.file.File.{File}
use Rattle.dl_forms.specs.Table.{NameTable}
use Rattle.dl_forms.specs.Context.{Text}
use Rattle.dl_forms.specs.Show.{no_place, bare, symbol, number, form}
use Rattle.dl_notation.specs.Trees.{parts_of}
use Rattle.dl_notation.specs.Environment.{Environment}
use Rattle.dl_notation.proofs.TreeLemmas.{parts_of-List}
use Rattle.dl_shown.specs.Shown.{listed, nodes_from}
use Rattle.dl_shown.specs.Whole.{item_by_kind, item_of, shown_file}
use Rattle.dl_means.specs.Before.{behind_item}
use Rattle.dl_means.specs.Flat.{flat_item, flat_items}
use Rattle.dl_means.specs.Says.{says_kind, says_item}
use Rattle.dl_means.specs.Stands.{same_place, kind_stands, item_stands, kind_number, AreListed}
use Rattle.dl_means.specs.Means.{fit_items}
use Rattle.dl_one_file.proofs.Trees.{apart, first, second, IsFine, IsPlain, parts-fine, same-list, same-parts, same-head, same-tail}
use Rattle.dl_one_file.proofs.Lists.{same-lists, map-at}
use Rattle.dl_one_file.proofs.Flatten.{text-of-bare, bare-fine, bare-known, either-fine}
use Rattle.dl_one_file.proofs.Scripts.{same-place}
use Rattle.dl_one_file.proofs.Numbered.{same-kind, count_in, listed-as, kind_of_word, kind_by, item-known, kind-shown, number-below, ItemThere, item-there, kinds, same-numbers, same-counts}

-- ---- an item against its tree

abbrev pub env_at : Environment → List Tree → ℕ → Environment
env_at env [] i = env
env_at env (tree ∷ trees) zero = env
env_at env (tree ∷ trees) (suc i) = env_at (behind_item env tree) trees i

abbrev pub tree_at : List Tree → ℕ → Tree
tree_at [] i = symbol []
tree_at (tree ∷ trees) zero = tree
tree_at (tree ∷ trees) (suc i) = tree_at trees i

record Fits (names : NameTable) (file : File) (env : Environment) (tree : Tree) (item : Item) : Type 0 where
  says : says_kind names env file item.kind item.at ≡ true
  place : same_place item.place (place_of tree) ≡ true
  stands : kind_stands tree file item.kind item.at ≡ true

fits-at : (names : NameTable) (file : File) (env : Environment) (trees : List Tree) (items : List Item) → fit_items names file env trees items ≡ true →
    (i : ℕ) (item : Item) → slice_get items i ≡ Some item → Fits names file (env_at env trees i) (tree_at trees i) item
fits-at names file env [] [] h i item e = cc
fits-at names file env [] (x ∷ items) h i item e = absurd (apart h)
fits-at names file env (t ∷ trees) [] h i item e = absurd (apart h)
fits-at names file env (t ∷ trees) (x ∷ items) h zero item e =
    let is : x ≡ item = cc in
    let both : (says_item names env file x && item_stands t file x) ≡ true = first (says_item names env file x && item_stands t file x) (fit_items names file (behind_item env t) trees items) h in
    let stand : item_stands t file x ≡ true = second (says_item names env file x) (item_stands t file x) both in
    subst (Fits names file env t) is (record {
      says = first (says_item names env file x) (item_stands t file x) both;
      place = first (same_place x.place (place_of t)) (kind_stands t file x.kind x.at) stand;
      stands = second (same_place x.place (place_of t)) (kind_stands t file x.kind x.at) stand;
    })
fits-at names file env (t ∷ trees) (x ∷ items) h (suc i) item e =
    fits-at names file (behind_item env t) trees items (second (says_item names env file x && item_stands t file x) (fit_items names file (behind_item env t) trees items) h) i item e

-- what is written at a place
flat-at : (env : Environment) (trees : List Tree) (i : ℕ) (t : Tree) → slice_get (flat_items env trees) i ≡ Some t → flat_item (env_at env trees i) (tree_at trees i) ≡ t
flat-at env [] i t e = cc
flat-at env (tree ∷ trees) zero t e = cc
flat-at env (tree ∷ trees) (suc i) t e = flat-at (behind_item env tree) trees i t e

fine-at : (env : Environment) (trees : List Tree) (i : ℕ) (t : Tree) → Each IsFine trees → slice_get (flat_items env trees) i ≡ Some t → IsFine (tree_at trees i)
fine-at env [] i t h e = cc
fine-at env (tree ∷ trees) zero t h e = h.0
fine-at env (tree ∷ trees) (suc i) t h e = fine-at (behind_item env tree) trees i t h.1 e

-- what is written of a plain tree is plain, but for a world
plain-of : (k : ItemKind) (env : Environment) (item tree : Tree) → item ≡ flat_item env tree → kind_by (parts_of item) ≡ kind_number k → (kind_number k == 4) ≡ false → IsFine tree → IsPlain item
plain-of k env item tree is number other fine =
    elim (either-fine env tree fine) [
      | inl flat ↦ (subst IsFine (sym is) flat, item-known k item number)
      | inr w ↦ (let four : kind_by (parts_of (listed (bare w.word ∷ bare w.name ∷ w.rest))) ≡ 4 =
          ap kind_by (parts_of-List (bare w.word ∷ bare w.name ∷ w.rest) no_place) ∙ ap kind_of_word (text-of-bare w.word ∙ w.word_is) in
          let same : kind_number k ≡ 4 = sym number ∙ (ap (λ t. kind_by (parts_of t)) (is ∙ w.flat_is) ∙ four) in
          absurd (apart (sym other ∙ eq-eqb (kind_number k) 4 same)))
    ]

first-of : (env : Environment) (item tree : Tree) (word : Text) (part : Tree) (parts : List Tree) → item ≡ flat_item env tree → IsFine tree → item ≡ form word (part ∷ parts) → IsPlain part
first-of env item tree word part parts is fine shown =
    elim (either-fine env tree fine) [
      | inl flat ↦ (parts-fine word (part ∷ parts) (subst IsFine (sym is ∙ shown) flat)).0
      | inr w ↦ (let all : symbol word ∷ part ∷ parts ≡ bare w.word ∷ bare w.name ∷ w.rest = same-list _ _ (sym shown ∙ (is ∙ w.flat_is)) in
          subst IsPlain (sym (same-head _ _ _ _ (same-tail _ _ _ _ all))) (bare-fine w.name w.name_fine, bare-known w.name w.name_known))
    ]

-- ---- two files

-- Both files are written as one tree, and against the same items of a tree, which are plain.
pub record AreWritten (na nb : NameTable) (a b : File) : Type 0 where
  pub shown : shown_file na a ≡ shown_file nb b
  pub listed_a : AreListed na a
  pub listed_b : AreListed nb b
  pub env : Environment
  pub trees : List Tree
  pub trees_fine : Each IsFine trees
  pub flat_a : map (item_of na a) a.items ≡ flat_items env trees
  pub fit_a : fit_items na a env trees a.items ≡ true
  pub fit_b : fit_items nb b env trees b.items ≡ true

-- the thing of this kind and number, in both files
pub record Twice (na nb : NameTable) (a b : File) (kind : ItemKind) (at : ℕ) : Type 0 where
  pub env : Environment
  pub tree : Tree
  pub shown : item_by_kind na a kind at ≡ item_by_kind nb b kind at
  -- a world's labels and hooks aside
  pub plain : (kind_number kind == 4) ≡ false → IsPlain (item_by_kind na a kind at)
  pub first_plain : (word : Text) (part : Tree) (parts : List Tree) → item_by_kind na a kind at ≡ form word (part ∷ parts) → IsPlain part
  pub says_a : says_kind na env a kind at ≡ true
  pub says_b : says_kind nb env b kind at ≡ true
  pub stands_a : kind_stands tree a kind at ≡ true
  pub stands_b : kind_stands tree b kind at ≡ true

known : (names : NameTable) (file : File) → AreListed names file → (i : ℕ) (item : Item) → slice_get file.items i ≡ Some item → item.at < count_in names file item.kind
known names file listed i item e = number-below (kind_number item.kind) 0 (count_in names file item.kind) file.items i item (listed-as names file listed item.kind) e refl

kinds-of : (na nb : NameTable) (a b : File) (xs ys : List Item) → map (item_of na a) xs ≡ map (item_of nb b) ys →
    ((i : ℕ) (x : Item) → slice_get xs i ≡ Some x → x.at < count_in na a x.kind) → ((i : ℕ) (y : Item) → slice_get ys i ≡ Some y → y.at < count_in nb b y.kind) → kinds xs ≡ kinds ys
kinds-of na nb a b [] [] e kx ky = refl
kinds-of na nb a b [] (y ∷ ys) e kx ky = cc
kinds-of na nb a b (x ∷ xs) [] e kx ky = cc
kinds-of na nb a b (x ∷ xs) (y ∷ ys) e kx ky =
    let shown : item_of na a x ≡ item_of nb b y = same-head _ _ _ _ e in
    let number : kind_number x.kind ≡ kind_number y.kind =
    sym (kind-shown na a x.kind x.at (kx 0 x refl)) ∙ (ap (λ tree. kind_by (parts_of tree)) shown ∙ kind-shown nb b y.kind y.at (ky 0 y refl)) in
    let first : x.kind ≡ y.kind = same-kind x.kind y.kind number in
    let rest : kinds xs ≡ kinds ys = kinds-of na nb a b xs ys (same-tail _ _ _ _ e) (λ i z h. kx (suc i) z h) (λ i z h. ky (suc i) z h) in
    λ i. first i ∷ rest i

module _ (na nb : NameTable) (a b : File) (written : AreWritten na nb a b) where
  parts : number (pos 1) ∷ form (codes "nodes") (nodes_from na first_name a.decls.inst.nodes) ∷ map (item_of na a) a.items
      ≡ number (pos 1) ∷ form (codes "nodes") (nodes_from nb first_name b.decls.inst.nodes) ∷ map (item_of nb b) b.items
  parts = same-parts _ _ _ _ written.shown

  items-shown : map (item_of na a) a.items ≡ map (item_of nb b) b.items
  items-shown = same-tail _ _ _ _ (same-tail _ _ _ _ parts)

  -- ---- nodes

  same-counts-of : (s n m : ℕ) → nodes_from na s n ≡ nodes_from nb s m → n ≡ m
  same-counts-of s zero zero e = refl
  same-counts-of s zero (suc m) e = cc
  same-counts-of s (suc n) zero e = cc
  same-counts-of s (suc n) (suc m) e = ap suc (same-counts-of (suc s) n m (same-tail _ _ _ _ e))

  pub same-nodes : a.decls.inst.nodes ≡ b.decls.inst.nodes
  same-nodes = same-counts-of first_name a.decls.inst.nodes b.decls.inst.nodes (same-parts _ _ _ _ (same-head _ _ _ _ (same-tail _ _ _ _ parts)))

  -- ---- items

  kinds-same : kinds a.items ≡ kinds b.items
  kinds-same = kinds-of na nb a b a.items b.items items-shown (known na a written.listed_a) (known nb b written.listed_b)

  counts-same : length a.items ≡ length b.items
  counts-same = sym (length-map a.items (item_of na a)) ∙ (ap length items-shown ∙ length-map b.items (item_of nb b))

  item-same : (i : ℕ) (x y : Item) → slice_get a.items i ≡ Some x → slice_get b.items i ≡ Some y → x ≡ y
  item-same i x y hx hy =
      let fa : Fits na a (env_at written.env written.trees i) (tree_at written.trees i) x = fits-at na a written.env written.trees a.items written.fit_a i x hx in
      let fb : Fits nb b (env_at written.env written.trees i) (tree_at written.trees i) y = fits-at nb b written.env written.trees b.items written.fit_b i y hy in
      let both : Some x.kind ≡ Some y.kind = sym (map-at (λ (z : Item). z.kind) a.items i x hx) ∙ (ap (λ ks. slice_get ks i) kinds-same ∙ map-at (λ (z : Item). z.kind) b.items i y hy) in
      let kk : x.kind ≡ y.kind = cc in
      let numbers : x.at ≡ y.at = same-numbers (kind_number x.kind) 0 (count_in na a x.kind) (count_in nb b x.kind) a.items b.items i x y kinds-same
      (listed-as na a written.listed_a x.kind) (listed-as nb b written.listed_b x.kind) hx hy refl in
      let places : x.place ≡ y.place = same-place x.place y.place (tree_at written.trees i) fa.place fb.place in
      λ j. record { kind = kk j; at = numbers j; place = places j }

  pub same-items : a.items ≡ b.items
  same-items = same-lists a.items b.items counts-same item-same

  pub same-count : (k : ItemKind) → count_in na a k ≡ count_in nb b k
  same-count k = same-counts (kind_number k) 0 (count_in na a k) (count_in nb b k) a.items b.items kinds-same (listed-as na a written.listed_a k) (listed-as nb b written.listed_b k)

  pub twice : (k : ItemKind) (j : ℕ) → j < count_in na a k → Twice na nb a b k j
  twice k j few =
      let it : ItemThere a.items (kind_number k) j = item-there (kind_number k) 0 (count_in na a k) a.items j (listed-as na a written.listed_a k) (omega arith) few in
      let kk : it.item.kind ≡ k = same-kind it.item.kind k it.kind_is in
      let found_b : slice_get b.items it.place ≡ Some it.item = ap (λ items. slice_get items it.place) (sym same-items) ∙ it.found in
      let env : Environment = env_at written.env written.trees it.place in
      let tree : Tree = tree_at written.trees it.place in
      let fa : Fits na a env tree it.item = fits-at na a written.env written.trees a.items written.fit_a it.place it.item it.found in
      let fb : Fits nb b env tree it.item = fits-at nb b written.env written.trees b.items written.fit_b it.place it.item found_b in
      let both : Some (item_of na a it.item) ≡ Some (item_of nb b it.item) =
      sym (map-at (item_of na a) a.items it.place it.item it.found) ∙ (ap (λ trees. slice_get trees it.place) items-shown ∙ map-at (item_of nb b) b.items it.place it.item found_b) in
      let shown : item_of na a it.item ≡ item_of nb b it.item = cc in
      let flat_there : slice_get (flat_items written.env written.trees) it.place ≡ Some (item_of na a it.item) =
      ap (λ trees. slice_get trees it.place) (sym written.flat_a) ∙ map-at (item_of na a) a.items it.place it.item it.found in
      let fine : IsFine tree = fine-at written.env written.trees it.place (item_of na a it.item) written.trees_fine flat_there in
      let flat_is : flat_item env tree ≡ item_of na a it.item = flat-at written.env written.trees it.place (item_of na a it.item) flat_there in
      let shown_a : item_of na a it.item ≡ item_by_kind na a k j = (λ i. item_by_kind na a (kk i) (it.at_is i)) in
      let shown_b : item_of nb b it.item ≡ item_by_kind nb b k j = (λ i. item_by_kind nb b (kk i) (it.at_is i)) in
      record {
        env = env;
        tree = tree;
        shown = sym shown_a ∙ (shown ∙ shown_b);
        plain = λ other. plain-of k env (item_by_kind na a k j) tree (sym shown_a ∙ sym flat_is) (kind-shown na a k j few) other fine;
        first_plain = λ word part parts e. first-of env (item_by_kind na a k j) tree word part parts (sym shown_a ∙ sym flat_is) fine e;
        says_a = (λ i. says_kind na env a (sym kk i) (sym it.at_is i)) ∙ fa.says;
        says_b = (λ i. says_kind nb env b (sym kk i) (sym it.at_is i)) ∙ fb.says;
        stands_a = (λ i. kind_stands tree a (sym kk i) (sym it.at_is i)) ∙ fa.stands;
        stands_b = (λ i. kind_stands tree b (sym kk i) (sym it.at_is i)) ∙ fb.stands;
      }
