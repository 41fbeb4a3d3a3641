-- Parts of trees, and what of plain trees is plain.
use Rattle.std.proofs.Common.{◌≡◌, ℤ, Bool, true, false, List, [], ◌∷◌, map, refl, ap, sym, ◌∙◌}
use Rattle.std.specs.Prelude.{◌&&◌, ◌||◌, not, codes}
use Rattle.std.specs.List.{list_all, list_any, AllByRecursion as Each}
use Rattle.std.specs.Str.{bytes_eq}
use Rattle.dl_tree.specs.declared.tree.Place.{Place}
use Rattle.dl_tree.specs.declared.tree.Tree.{Tree, Num, Sym, List'}
use Rattle.dl_tree.specs.declared.tree.Tree.TheOpen as layer
use Rattle.dl_tree.specs.declared.tree.Tree.TheVariants as tree
use Rattle.dl_tree.specs.declared.tree.Tree.TheFolds.{para-Tree, para-roll-Tree}
use Rattle.dl_forms.specs.Context.{Text}
use Rattle.dl_forms.specs.Judge.{text_of}
use Rattle.dl_forms.specs.Show.{no_place, symbol, number, form}
use Rattle.dl_notation.specs.Trees.{parts_of}
use Rattle.dl_notation.proofs.TreeLemmas.{beside, trees-beside, parts_of-Num, parts_of-Sym, parts_of-List}
use Rattle.dl_one_file.specs.Plain.{has_text, is_list, is_length_of_int, is_unknown, has_unknown, layer_plain, is_plain_tree}

-- ---- tests

pub first : (a b : Bool) → (a && b) ≡ true → a ≡ true
first true b h = refl
first false b h = cc

pub second : (a b : Bool) → (a && b) ≡ true → b ≡ true
second true b h = h
second false b h = cc

pub no-not : (a : Bool) → not a ≡ true → a ≡ false
no-not true h = sym h
no-not false h = refl

pub neither : (a b : Bool) → (a || b) ≡ false → (a ≡ false) × (b ≡ false)
neither true b h = cc
neither false b h = (refl, h)

-- kinds that differ
pub apart : false ≡ true → ⊥
apart h = cc

-- ---- plain trees

plain-beside : (parts : List Tree) → list_all (λ (part : Tree × Bool). part.1) (map (beside is_plain_tree) parts) ≡ list_all is_plain_tree parts
plain-beside [] = refl
plain-beside (part ∷ parts) = ap (λ rest. is_plain_tree part && rest) (plain-beside parts)

pub plain-Num : (v : ℤ) (p : Place) → is_plain_tree (tree.Num v p) ≡ true
unfolding is_plain_tree
plain-Num v p = ap (para-Tree Bool layer_plain) (sym (tree.rolls-Num v p)) ∙ para-roll-Tree Bool layer_plain (layer.Num v p)

pub plain-Sym : (name : Text) (p : Place) → is_plain_tree (tree.Sym name p) ≡ has_text name
unfolding is_plain_tree
plain-Sym name p = ap (para-Tree Bool layer_plain) (sym (tree.rolls-Sym name p)) ∙ para-roll-Tree Bool layer_plain (layer.Sym name p)

rolled : (items : List Tree) (p : Place) →
    is_plain_tree (tree.List items p) ≡ (not (has_unknown (map (λ (part : Tree × Bool). part.0) (map (beside is_plain_tree) items))) && list_all (λ (part : Tree × Bool). part.1) (map (beside is_plain_tree) items))
unfolding is_plain_tree
rolled items p = ap (para-Tree Bool layer_plain) (sym (tree.rolls-List items p)) ∙ para-roll-Tree Bool layer_plain (layer.List items p)

pub plain-List : (items : List Tree) (p : Place) → is_plain_tree (tree.List items p) ≡ (not (has_unknown items) && list_all is_plain_tree items)
plain-List items p =
    rolled items p
    ∙ (ap (λ trees. not (has_unknown trees) && list_all (λ (part : Tree × Bool). part.1) (map (beside is_plain_tree) items)) (trees-beside is_plain_tree items)
    ∙ ap (λ all. not (has_unknown items) && all) (plain-beside items))

-- the tree is plain, and no length of an unknown label
abbrev pub IsFine : Tree → Type 0
IsFine tree = is_plain_tree tree ≡ true

abbrev pub IsKnown : Tree → Type 0
IsKnown tree = is_unknown tree ≡ false

abbrev pub IsPlain : Tree → Type 0
IsPlain tree = IsFine tree × IsKnown tree

pub each-fine : (trees : List Tree) → list_all is_plain_tree trees ≡ true → Each IsFine trees
each-fine [] h = tt
each-fine (tree ∷ trees) h = (first (is_plain_tree tree) (list_all is_plain_tree trees) h, each-fine trees (second (is_plain_tree tree) (list_all is_plain_tree trees) h))

pub each-known : (trees : List Tree) → list_any is_unknown trees ≡ false → Each IsKnown trees
each-known [] h = tt
each-known (tree ∷ trees) h = let both = neither (is_unknown tree) (list_any is_unknown trees) h in (both.0, each-known trees both.1)

pub each-both : (trees : List Tree) → Each IsFine trees → Each IsKnown trees → Each IsPlain trees
each-both [] fine known = tt
each-both (tree ∷ trees) fine known = ((fine.0, known.0), each-both trees fine.1 known.1)

-- a number or a symbol is no length
pub atom-known : (tree : Tree) → is_list tree ≡ false → IsKnown tree
atom-known (Num v p) h = ap is_length_of_int (parts_of-Num v p)
atom-known (Sym name p) h = ap is_length_of_int (parts_of-Sym name p)
atom-known (List' s row p) h = absurd (apart (sym h))

-- the parts of a list
pub list-fine : (parts : List Tree) (p : Place) → IsFine (tree.List parts p) → Each IsFine parts
list-fine parts p h = each-fine parts (second (not (has_unknown parts)) (list_all is_plain_tree parts) (sym (plain-List parts p) ∙ h))

pub list-has : (parts : List Tree) (p : Place) → IsFine (tree.List parts p) → has_unknown parts ≡ false
list-has parts p h = no-not (has_unknown parts) (first (not (has_unknown parts)) (list_all is_plain_tree parts) (sym (plain-List parts p) ∙ h))

-- those of a list that begins with no list
pub known-behind : (first : Tree) (parts : List Tree) → is_list first ≡ false → has_unknown (first ∷ parts) ≡ false → Each IsKnown (first ∷ parts)
known-behind first parts head h =
    let any : list_any is_unknown parts ≡ false = ap (λ b. not b && list_any is_unknown parts) (sym head) ∙ h in
    (atom-known first head, each-known parts any)

pub list-plain : (first : Tree) (parts : List Tree) → is_list first ≡ false → IsFine (tree.List (first ∷ parts) no_place) → Each IsPlain (first ∷ parts)
list-plain first parts head h =
    each-both (first ∷ parts) (list-fine (first ∷ parts) no_place h) (known-behind first parts head (list-has (first ∷ parts) no_place h))

-- those behind the word
pub parts-fine : (word : Text) (parts : List Tree) → IsFine (form word parts) → Each IsPlain parts
parts-fine word parts h = (list-plain (symbol word) parts refl h).1

pub parts-plain : (word : Text) (parts : List Tree) → IsPlain (form word parts) → Each IsPlain parts
parts-plain word parts h = parts-fine word parts h.0

pub known-length : (label : Tree) → IsPlain (form (codes "len") (label ∷ [])) → bytes_eq (text_of label) (codes "int") ≡ false
known-length label h = sym (ap is_length_of_int (parts_of-List (symbol (codes "len") ∷ label ∷ []) no_place)) ∙ h.1

pub text-of-plain : (name : Text) → IsPlain (symbol name) → has_text name ≡ true
text-of-plain name h = sym (plain-Sym name no_place) ∙ h.0

-- ---- equal trees have equal parts

pub same-list : (ps qs : List Tree) → tree.List ps no_place ≡ tree.List qs no_place → ps ≡ qs
same-list ps qs e = sym (parts_of-List ps no_place) ∙ ap parts_of e ∙ parts_of-List qs no_place

pub same-parts : (word other : Text) (ps qs : List Tree) → form word ps ≡ form other qs → ps ≡ qs
same-parts word other ps qs e = let all : symbol word ∷ ps ≡ symbol other ∷ qs = same-list (symbol word ∷ ps) (symbol other ∷ qs) e in cc

pub same-word : (word other : Text) (ps qs : List Tree) → form word ps ≡ form other qs → word ≡ other
same-word word other ps qs e = let all : symbol word ∷ ps ≡ symbol other ∷ qs = same-list (symbol word ∷ ps) (symbol other ∷ qs) e in
    let heads : symbol word ≡ symbol other = cc in ap text_of heads

pub same-text : (s t : Text) → symbol s ≡ symbol t → s ≡ t
same-text s t e = ap text_of e

pub same-number : (v w : ℤ) → number v ≡ number w → v ≡ w
same-number v w e = cc

pub same-head : (x y : Tree) (xs ys : List Tree) → x ∷ xs ≡ y ∷ ys → x ≡ y
same-head x y xs ys e = cc

pub same-tail : (x y : Tree) (xs ys : List Tree) → x ∷ xs ≡ y ∷ ys → xs ≡ ys
same-tail x y xs ys e = cc
