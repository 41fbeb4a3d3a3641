-- Items that are written alike have the same kinds and numbers.
use Rattle.std.proofs.Common.{◌≡◌, ℕ, zero, suc, ◌<◌, ◌≤◌, Bool, true, false, ◌==◌, if◌then◌else◌, List, [], ◌∷◌, length, map, Option, Some, None, refl, ap, sym, ◌∙◌, eq-eqb, eqb-true, arith, ◌⊎◌, inl, inr}
use Rattle.std.specs.Prelude.{◌&&◌, slice_get, codes}
use Rattle.std.specs.Str.{bytes_eq}
use Rattle.std.proofs.lemmas.Slice.Eq.{bytes_eq-Decides}
use Rattle.dl_tree.specs.declared.tree.Tree.{Tree}
use Rattle.dl_model.specs.declared.file.Deploy.{Deploy}
use Rattle.dl_file.specs.declared.file.ItemKind.{ItemKind}
use Rattle.dl_file.specs.declared.file.ItemKind.TheVariants as kind
use Rattle.dl_file.specs.declared.file.Item.{Item}
use Rattle.dl_file.specs.declared.file.File.{File}
use Rattle.dl_forms.specs.Context.{Text}
use Rattle.dl_forms.specs.Judge.{text_of}
use Rattle.dl_forms.specs.Table.{NameTable}
use Rattle.dl_forms.specs.Show.{no_place, symbol, form}
use Rattle.dl_notation.specs.Trees.{parts_of}
use Rattle.dl_notation.proofs.TreeLemmas.{parts_of-List}
use Rattle.dl_shown.specs.Shown.{shown_if, deploy_of}
use Rattle.dl_shown.specs.Whole.{item_by_kind}
use Rattle.dl_means.specs.Stands.{kind_number, are_numbered, deploy_count, AreListed}
use Rattle.dl_one_file.specs.Plain.{is_length_of_int}
use Rattle.dl_one_file.proofs.Trees.{apart, first, second, IsKnown}
use Rattle.dl_one_file.proofs.Lists.{there}

split : (b : Bool) → (b ≡ true) ⊎ (b ≡ false)
split true = inl refl
split false = inr refl

-- ---- kinds

abbrev kind_of_number : ℕ → ItemKind
kind_of_number n =
    if n == 0 then kind.Sort else if n == 1 then kind.Protocol else if n == 2 then kind.Label else
    if n == 3 then kind.Hook else if n == 4 then kind.World else if n == 5 then kind.Invariant else
    if n == 6 then kind.Procedure else if n == 7 then kind.Deploy else kind.Proof

number-back : (k : ItemKind) → kind_of_number (kind_number k) ≡ k
number-back kind.Sort = refl
number-back kind.Protocol = refl
number-back kind.Label = refl
number-back kind.Hook = refl
number-back kind.World = refl
number-back kind.Invariant = refl
number-back kind.Procedure = refl
number-back kind.Deploy = refl
number-back kind.Proof = refl

pub same-kind : (k l : ItemKind) → kind_number k ≡ kind_number l → k ≡ l
same-kind k l e = sym (number-back k) ∙ (ap kind_of_number e ∙ number-back l)

-- how many items of a kind there are
abbrev pub count_in : NameTable → File → ItemKind → ℕ
count_in names file kind.Sort = length names.sorts
count_in names file kind.Protocol = length file.decls.inst.protocols
count_in names file kind.Label = length file.decls.labels
count_in names file kind.Hook = length file.decls.hooks
count_in names file kind.World = length file.decls.worlds
count_in names file kind.Invariant = length file.decls.invariants
count_in names file kind.Procedure = length file.decls.procs
count_in names file kind.Deploy = deploy_count file.decls.deploy
count_in names file kind.Proof = length file.proofs

pub listed-as : (names : NameTable) (file : File) → AreListed names file → (k : ItemKind) → are_numbered (kind_number k) 0 (count_in names file k) file.items ≡ true
listed-as names file listed kind.Sort = listed.sorts
listed-as names file listed kind.Protocol = listed.protocols
listed-as names file listed kind.Label = listed.labels
listed-as names file listed kind.Hook = listed.hooks
listed-as names file listed kind.World = listed.worlds
listed-as names file listed kind.Invariant = listed.invariants
listed-as names file listed kind.Procedure = listed.procs
listed-as names file listed kind.Deploy = listed.deploy
listed-as names file listed kind.Proof = listed.proofs

-- ---- the word of an item

abbrev pub kind_of_word : Text → ℕ
kind_of_word word =
    if bytes_eq word (codes "sort") then 0 else if bytes_eq word (codes "protocol") then 1 else if bytes_eq word (codes "label") then 2 else
    if bytes_eq word (codes "hook") then 3 else if bytes_eq word (codes "world") then 4 else if bytes_eq word (codes "invariant") then 5 else
    if bytes_eq word (codes "proc") then 6 else if bytes_eq word (codes "deploy") then 7 else if bytes_eq word (codes "proof") then 8 else 9

abbrev pub kind_by : List Tree → ℕ
kind_by [] = 9
kind_by (word ∷ parts) = kind_of_word (text_of word)

pub kind-of-form : (word : Text) (parts : List Tree) → kind_by (parts_of (form word parts)) ≡ kind_of_word word
kind-of-form word parts = ap kind_by (parts_of-List (symbol word ∷ parts) no_place)

below-nine : (k : ItemKind) → (kind_number k == 9) ≡ false
below-nine kind.Sort = refl
below-nine kind.Protocol = refl
below-nine kind.Label = refl
below-nine kind.Hook = refl
below-nine kind.World = refl
below-nine kind.Invariant = refl
below-nine kind.Procedure = refl
below-nine kind.Deploy = refl
below-nine kind.Proof = refl

-- an item is no length
known-by : (k : ItemKind) (parts : List Tree) → kind_by parts ≡ kind_number k → is_length_of_int parts ≡ false
known-by k [] e = refl
known-by k (word ∷ []) e = refl
known-by k (word ∷ label ∷ []) e =
    elim (split (bytes_eq (text_of word) (codes "len"))) [
      | inl is ↦ (let nine : kind_number k ≡ 9 = sym e ∙ ap kind_of_word ((bytes_eq-Decides (text_of word) (codes "len")).0 is) in
          absurd (apart (sym (below-nine k) ∙ eq-eqb (kind_number k) 9 nine)))
      | inr is ↦ ap (λ b. b && bytes_eq (text_of label) (codes "int")) is
    ]
known-by k (word ∷ label ∷ other ∷ parts) e = refl

pub item-known : (k : ItemKind) (item : Tree) → kind_by (parts_of item) ≡ kind_number k → IsKnown item
item-known k item e = known-by k (parts_of item) e

-- what is found is written
kind-found : {X : Type 0} (n : ℕ) (shown : X → Tree) (xs : List X) (at : ℕ) → ((x : X) → kind_by (parts_of (shown x)) ≡ n) → at < length xs → kind_by (parts_of (shown_if shown (slice_get xs at))) ≡ n
kind-found n shown xs at each few =
    let (x, is) = there xs at few in
    ap (λ o. kind_by (parts_of (shown_if shown o))) is ∙ each x

kind-deploy : (n : ℕ) (shown : Deploy → Tree) (deploy : Option Deploy) (at : ℕ) → ((x : Deploy) → kind_by (parts_of (shown x)) ≡ n) → at < deploy_count deploy → kind_by (parts_of (shown_if shown deploy)) ≡ n
kind-deploy n shown None at each few = absurd (omega (arith, few))
kind-deploy n shown (Some d) at each few = each d

module _ (names : NameTable) (file : File) where
  pub kind-shown : (k : ItemKind) (at : ℕ) → at < count_in names file k → kind_by (parts_of (item_by_kind names file k at)) ≡ kind_number k
  kind-shown kind.Sort at few = kind-found 0 _ names.sorts at (λ x. kind-of-form (codes "sort") _) few
  kind-shown kind.Protocol at few = kind-found 1 _ file.decls.inst.protocols at (λ x. kind-of-form (codes "protocol") _) few
  kind-shown kind.Label at few = kind-of-form (codes "label") _
  kind-shown kind.Hook at few = kind-found 3 _ file.decls.hooks at (λ x. kind-of-form (codes "hook") _) few
  kind-shown kind.World at few = kind-found 4 _ file.decls.worlds at (λ x. kind-of-form (codes "world") _) few
  kind-shown kind.Invariant at few = kind-found 5 _ file.decls.invariants at (λ x. kind-of-form (codes "invariant") _) few
  kind-shown kind.Procedure at few = kind-found 6 _ file.decls.procs at (λ x. kind-of-form (codes "proc") _) few
  kind-shown kind.Deploy at few = kind-deploy 7 (deploy_of names file.decls) file.decls.deploy at (λ x. kind-of-form (codes "deploy") _) few
  kind-shown kind.Proof at few = kind-found 8 _ file.proofs at (λ x. kind-of-form (codes "proof") _) few

-- ---- numbers

-- what the test of an item's number comes to, by whether it is of the kind
numbered-by : (k f c : ℕ) (item : Item) (items : List Item) (is : Bool) → (k == kind_number item.kind) ≡ is → are_numbered k f c (item ∷ items) ≡ true →
    (if is then (item.at == f) && are_numbered k (suc f) c items else are_numbered k f c items) ≡ true
numbered-by k f c item items is e h = ap (λ b. if b then (item.at == f) && are_numbered k (suc f) c items else are_numbered k f c items) (sym e) ∙ h

numbers-rise : (k f c : ℕ) (items : List Item) → are_numbered k f c items ≡ true → f ≤ c
numbers-rise k f c [] h = let is : f ≡ c = eqb-true f c h in omega (arith, is)
numbers-rise k f c (item ∷ items) h =
    elim (split (k == kind_number item.kind)) [
      | inl e ↦ (let more : suc f ≤ c = numbers-rise k (suc f) c items (second _ _ (numbered-by k f c item items true e h)) in omega (arith, more))
      | inr e ↦ numbers-rise k f c items (numbered-by k f c item items false e h)
    ]

-- an item's number is below the count of its kind
pub number-below : (k f c : ℕ) (items : List Item) (i : ℕ) (item : Item) → are_numbered k f c items ≡ true → slice_get items i ≡ Some item → kind_number item.kind ≡ k → item.at < c
number-below k f c [] i item h e is = cc
number-below k f c (x ∷ items) zero item h e is =
    let same : x ≡ item = cc in
    let test : (k == kind_number x.kind) ≡ true = eq-eqb k (kind_number x.kind) (sym (ap (λ (y : Item). kind_number y.kind) same ∙ is)) in
    let both = numbered-by k f c x items true test h in
    let at : item.at ≡ f = sym (ap (λ (y : Item). y.at) same) ∙ eqb-true x.at f (first _ _ both) in
    let more : suc f ≤ c = numbers-rise k (suc f) c items (second _ _ both) in
    omega (arith, at, more)
number-below k f c (x ∷ items) (suc i) item h e is =
    elim (split (k == kind_number x.kind)) [
      | inl t ↦ number-below k (suc f) c items i item (second _ _ (numbered-by k f c x items true t h)) e is
      | inr t ↦ number-below k f c items i item (numbered-by k f c x items false t h) e is
    ]

-- the item of a kind with this number
pub record ItemThere (items : List Item) (k j : ℕ) : Type 0 where
  pub place : ℕ
  pub item : Item
  pub found : slice_get items place ≡ Some item
  pub kind_is : kind_number item.kind ≡ k
  pub at_is : item.at ≡ j

behind-one : (x : Item) (items : List Item) (k j : ℕ) → ItemThere items k j → ItemThere (x ∷ items) k j
behind-one x items k j there = record { place = suc there.place; item = there.item; found = there.found; kind_is = there.kind_is; at_is = there.at_is }

pub item-there : (k f c : ℕ) (items : List Item) (j : ℕ) → are_numbered k f c items ≡ true → f ≤ j → j < c → ItemThere items k j
item-there k f c [] j h low few = let is : f ≡ c = eqb-true f c h in absurd (omega (arith, is, low, few))
item-there k f c (x ∷ items) j h low few =
    elim (split (k == kind_number x.kind)) [
      | inl t ↦ (let both = numbered-by k f c x items true t h in
          elim (split (j == f)) [
            | inl e ↦ record { place = 0; item = x; found = refl; kind_is = sym (eqb-true k (kind_number x.kind) t); at_is = eqb-true x.at f (first _ _ both) ∙ sym (eqb-true j f e) }
            | inr e ↦ behind-one x items k j (item-there k (suc f) c items j (second _ _ both) (above f j low e) few)
          ])
      | inr t ↦ behind-one x items k j (item-there k f c items j (numbered-by k f c x items false t h) low few)
    ]
  where
    above : (f j : ℕ) → f ≤ j → (j == f) ≡ false → suc f ≤ j
    above f j low e = let other : j ≡ f → ⊥ = (λ is. apart (sym e ∙ eq-eqb j f is)) in grind arith

abbrev pub kinds : List Item → List ItemKind
kinds items = map (λ (item : Item). item.kind) items

-- items of the same kinds have the same numbers
pub same-numbers : (k f c d : ℕ) (xs ys : List Item) (i : ℕ) (x y : Item) → kinds xs ≡ kinds ys → are_numbered k f c xs ≡ true → are_numbered k f d ys ≡ true →
    slice_get xs i ≡ Some x → slice_get ys i ≡ Some y → kind_number x.kind ≡ k → x.at ≡ y.at
same-numbers k f c d [] ys i x y e hx hy fx fy is = cc
same-numbers k f c d (a ∷ xs) [] i x y e hx hy fx fy is = cc
same-numbers k f c d (a ∷ xs) (b ∷ ys) zero x y e hx hy fx fy is =
    let ax : a ≡ x = cc in
    let bY : b ≡ y = cc in
    let ab : a.kind ≡ b.kind = cc in
    let ta : (k == kind_number a.kind) ≡ true = eq-eqb k (kind_number a.kind) (sym (ap (λ (z : Item). kind_number z.kind) ax ∙ is)) in
    let tb : (k == kind_number b.kind) ≡ true = ap (λ z. k == kind_number z) (sym ab) ∙ ta in
    let na : a.at ≡ f = eqb-true a.at f (first _ _ (numbered-by k f c a xs true ta hx)) in
    let nb : b.at ≡ f = eqb-true b.at f (first _ _ (numbered-by k f d b ys true tb hy)) in
    sym (ap (λ (z : Item). z.at) ax) ∙ (na ∙ (sym nb ∙ ap (λ (z : Item). z.at) bY))
same-numbers k f c d (a ∷ xs) (b ∷ ys) (suc i) x y e hx hy fx fy is =
    let ab : a.kind ≡ b.kind = cc in
    let rest : kinds xs ≡ kinds ys = cc in
    elim (split (k == kind_number a.kind)) [
      | inl t ↦ (let u : (k == kind_number b.kind) ≡ true = ap (λ z. k == kind_number z) (sym ab) ∙ t in
          same-numbers k (suc f) c d xs ys i x y rest (second _ _ (numbered-by k f c a xs true t hx)) (second _ _ (numbered-by k f d b ys true u hy)) fx fy is)
      | inr t ↦ (let u : (k == kind_number b.kind) ≡ false = ap (λ z. k == kind_number z) (sym ab) ∙ t in
          same-numbers k f c d xs ys i x y rest (numbered-by k f c a xs false t hx) (numbered-by k f d b ys false u hy) fx fy is)
    ]

pub same-counts : (k f c d : ℕ) (xs ys : List Item) → kinds xs ≡ kinds ys → are_numbered k f c xs ≡ true → are_numbered k f d ys ≡ true → c ≡ d
same-counts k f c d [] [] e hx hy = sym (eqb-true f c hx) ∙ eqb-true f d hy
same-counts k f c d [] (b ∷ ys) e hx hy = cc
same-counts k f c d (a ∷ xs) [] e hx hy = cc
same-counts k f c d (a ∷ xs) (b ∷ ys) e hx hy =
    let ab : a.kind ≡ b.kind = cc in
    let rest : kinds xs ≡ kinds ys = cc in
    elim (split (k == kind_number a.kind)) [
      | inl t ↦ (let u : (k == kind_number b.kind) ≡ true = ap (λ z. k == kind_number z) (sym ab) ∙ t in
          same-counts k (suc f) c d xs ys rest (second _ _ (numbered-by k f c a xs true t hx)) (second _ _ (numbered-by k f d b ys true u hy)))
      | inr t ↦ (let u : (k == kind_number b.kind) ≡ false = ap (λ z. k == kind_number z) (sym ab) ∙ t in
          same-counts k f c d xs ys rest (numbered-by k f c a xs false t hx) (numbered-by k f d b ys false u hy))
    ]
